pub mod Found
pub mod Standing
-- what is said of an entry that is a part, and of one that is none
pub mod Told
