-- What the proofs of the calls use, and what their promises mean: opening gives check 32 of the record that stands in the memory (DequeOpens), a beginning's memory has the record of the start
-- (DequeStarts), and on memory where a record stands a turn and a run are the record's (DequeSays);
-- where the limit's call answers 0, its row has what `dequelimit` gives (ChoiceRows).
pub mod DequeOpens
pub mod DequeStarts
pub mod DequeSays
pub mod ChoiceRows
