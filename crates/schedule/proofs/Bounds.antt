-- what a turn tries and does, and which actions lie beyond one
pub mod Beyond
pub mod Acts
pub mod Tries
