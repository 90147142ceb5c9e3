-- the first refusal along a list
pub mod Refusing
-- one part that nothing is said against, and how it is written
pub mod OnePart
-- pieces one after another, as the parts give them
pub mod Chunks
-- parts that are handed back as a part of the text
pub mod Unbroken
-- the value call, by its refusals
pub mod Call
