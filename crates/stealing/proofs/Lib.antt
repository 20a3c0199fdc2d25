pub mod Words
pub mod Room
pub mod Acts
pub mod Robs
pub mod Refines
pub mod Fits
pub mod InMemory
pub mod PairsRefine
mod Along
mod Leavings
mod Goes
mod Steals
mod Stealable
mod PairDrives
