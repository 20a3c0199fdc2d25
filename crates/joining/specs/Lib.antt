pub mod Joining
pub mod Answers
pub mod Given
pub mod Cases
pub mod Code
