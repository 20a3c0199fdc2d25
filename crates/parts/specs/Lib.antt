pub mod Copies
pub mod Kept
pub mod Joined
