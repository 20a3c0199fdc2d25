-- a turn keeps what any kind of run keeps, and the deques' own statements
pub mod ActCommon
pub mod Placed
pub mod Kept
pub mod DequeTurns
-- the deques as lines and bottoms: what each move does to them, and how they are read back
pub mod Flat
pub mod Bottoms
pub mod Cut
pub mod Counts
pub mod Standing
pub mod Read
-- the record, its test, the calls and their answers
pub mod DequeStores
pub mod DequeTests
pub mod Walks
pub mod DequeWalks
pub mod DequeHistories
pub mod DequeAnswers
-- the statements that a reader is sent to, and the worked cases
pub mod DequeSoundness
pub mod DequeCaseLaws
