pub mod Real
pub mod Workers
pub mod LateFree
pub mod BrokenRules
