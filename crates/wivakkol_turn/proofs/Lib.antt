-- What the proofs of the calls on an action use, and what the answers are for an action of the table.
pub mod Numbered
