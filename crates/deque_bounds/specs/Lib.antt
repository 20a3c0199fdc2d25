pub mod DequeRows
pub mod LimitCases
pub mod DemandCase
pub mod Deepest
pub mod BigCase
pub mod BigLeaps
