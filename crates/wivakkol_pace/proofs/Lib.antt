pub mod PacedTurns
pub mod PacedDrives
pub mod PacedNumbers
