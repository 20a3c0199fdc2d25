-- promises between the parts of the code
pub mod Writes
pub mod Acts
pub mod Seen
pub mod Laid
pub mod Found
