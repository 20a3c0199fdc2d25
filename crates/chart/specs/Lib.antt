pub mod Chart
pub mod Turns
pub mod Cases
