pub mod Meaning
pub mod Indents
