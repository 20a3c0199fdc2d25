pub mod Putting
pub mod Columns
pub mod Reading
pub mod Records
