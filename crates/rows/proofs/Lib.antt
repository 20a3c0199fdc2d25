pub mod Rest
pub mod RowsLeft
pub mod Whole
pub mod Renamed
