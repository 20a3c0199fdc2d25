pub mod Stealing
pub mod StealingMemory
pub mod StealingCases
pub mod Code
