pub mod Filled
pub mod Filling
pub mod TreeSizes
pub mod Code
pub mod FilledCases
