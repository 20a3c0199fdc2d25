pub mod Most
pub mod Line
pub mod MostCases
pub mod Code
