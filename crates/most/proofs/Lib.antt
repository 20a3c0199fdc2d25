pub mod TurnCounts
pub mod Answers
