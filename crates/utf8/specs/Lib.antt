-- what an answer means in the rules' terms
pub mod Meaning
-- what the private functions ensure
pub mod Ahead
pub mod Blocks
