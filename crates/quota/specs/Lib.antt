pub mod Quota
pub mod Line
pub mod Cases
pub mod Code
