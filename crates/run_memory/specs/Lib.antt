pub mod Memory
pub mod Blocks
pub mod Places
pub mod Stands
pub mod Preview
pub mod Packing
pub mod Runs
pub mod Code
