-- a list in two arrays, place by place
pub mod Entries
