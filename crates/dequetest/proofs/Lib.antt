pub mod Walking
pub mod DequeOnParts
