pub mod Tested
pub mod Code
