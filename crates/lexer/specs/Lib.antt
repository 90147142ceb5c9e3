pub mod Mode
pub mod Cursor
pub mod Memory
pub mod Results
pub mod Going
pub mod Running
pub mod Stepping
