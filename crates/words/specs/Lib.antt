pub mod Refusals
pub mod Lexing
pub mod Strings
pub mod Walking
