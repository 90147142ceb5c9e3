-- what writing does to an output, and chunks one after another
pub mod Overwritten
