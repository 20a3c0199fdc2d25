pub mod Marks
pub mod MarkCases
