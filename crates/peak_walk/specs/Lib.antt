pub mod Peaked
pub mod Along
pub mod Code
