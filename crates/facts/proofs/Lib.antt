pub mod NestWalk
pub mod Tops
pub mod EndLevels
pub mod DepthWalk
pub mod Accepted
