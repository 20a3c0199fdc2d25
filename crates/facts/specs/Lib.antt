pub mod Code
pub mod Weigh
