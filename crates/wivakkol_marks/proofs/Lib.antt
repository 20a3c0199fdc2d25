-- What the proofs of the code use, and what its promises mean: on memory that has a run and its marks the calls are N11's (MarkRefines).
mod Stretches
mod Fits
mod Marking
pub mod MarkRefines
