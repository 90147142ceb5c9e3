pub mod Classes
pub mod Reach
pub mod Measuring
