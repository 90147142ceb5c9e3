pub mod Codes
pub mod Table
