-- promises between the parts of the code
pub mod Checks
pub mod Adding
pub mod Balancing
pub mod Order
