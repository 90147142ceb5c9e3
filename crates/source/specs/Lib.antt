pub mod Meaning
pub mod Printed
