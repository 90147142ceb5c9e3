pub mod Meaning
pub mod Search
