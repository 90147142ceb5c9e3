pub mod Demand3
pub mod Calls
pub mod Walking
