pub mod Limits
pub mod Fit
pub mod Line
pub mod FitCases
pub mod Code
