-- promises between the parts of the code
pub mod DepthWalk
pub mod Steps
