pub mod Reading
pub mod Printed
