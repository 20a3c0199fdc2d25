pub mod Renames
pub mod Canonical
pub mod Order
pub mod Answers
pub mod Cases
pub mod Lines
pub mod Code
