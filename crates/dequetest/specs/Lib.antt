pub mod DequeTested
pub mod Code
