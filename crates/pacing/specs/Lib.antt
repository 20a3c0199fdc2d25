pub mod Pacing
pub mod PacedValues
pub mod PacedCases
