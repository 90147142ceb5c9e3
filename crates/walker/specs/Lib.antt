pub mod Meaning
pub mod Walkers
