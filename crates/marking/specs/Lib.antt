pub mod Marking
pub mod Code
