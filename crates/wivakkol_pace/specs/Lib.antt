pub mod Paced
pub mod PacedRuns
