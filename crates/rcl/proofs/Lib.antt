pub mod Kept
pub mod Noteless
