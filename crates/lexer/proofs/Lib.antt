-- the step by the class of the first byte
pub mod ByClass
pub mod Steps
pub mod Opening
-- the loop
pub mod Parts
pub mod Standing
pub mod Loop
pub mod Going
pub mod Ahead
pub mod Running
pub mod Whole
-- a single step
pub mod Openers
pub mod Single
pub mod Walking
