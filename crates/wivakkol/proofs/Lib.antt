-- What the proofs of the calls use.
pub mod Answers
mod UsefulRows
mod Cases
mod Begins
pub mod Rooms
pub mod Opens
pub mod WallLines
mod Previews
pub mod PreviewRefines
pub mod Numbered
pub mod RunAnswers
