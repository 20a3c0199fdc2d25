-- What the proofs of the code use, and what its promises mean: on memory that is the record of a run a turn is document 01's (Refines).
pub mod Parts
mod Rows
mod Numbers
pub mod Copied
mod Linking
mod Searching
mod Acts
mod ListActs
pub mod Takes
mod Seeing
pub mod Foreseeing
mod Laying
pub mod Drives
pub mod Fixed
pub mod Endings
pub mod Turning
pub mod WorkerRecords
pub mod Refines
pub mod RunsRefine
pub mod Stopping
pub mod Packed
pub mod ByValue
pub mod Refusals
