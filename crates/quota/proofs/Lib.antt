pub mod Largest
pub mod Answers
pub mod Least
pub mod Checks
