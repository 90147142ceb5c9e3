-- codes lead both ways
pub mod Codes
-- what a code opens
pub mod Openers
