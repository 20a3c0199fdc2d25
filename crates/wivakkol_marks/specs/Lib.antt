pub mod LentMarks
pub mod MarkedIn
pub mod Code
