pub mod Walk
pub mod Parallel
