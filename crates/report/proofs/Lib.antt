-- what a closure that was called said
pub mod Answered
-- the lines of a listing are those of the rule
pub mod Lines
-- what stands in a room after a read
pub mod Room
