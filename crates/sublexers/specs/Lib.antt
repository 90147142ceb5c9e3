pub mod Outcome
pub mod Words
pub mod ByClass
pub mod Quotes
