pub mod DequesPassed
pub mod DequePacked
pub mod DequeKeeps
pub mod DequeByValue
