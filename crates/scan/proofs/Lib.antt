pub mod Reach
pub mod Measuring
