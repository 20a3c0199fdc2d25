pub mod Number
pub mod Front
pub mod Input
pub mod Message
pub mod Cases
pub mod Code
