-- what an answer means; the modules' own laws
pub mod Outcomes
pub mod Identifier
pub mod Letters
pub mod Numbers
pub mod Punctuation
pub mod Quoted
