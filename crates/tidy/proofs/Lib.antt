-- pieces one after another
pub mod Written
-- a whole call
pub mod Whole
