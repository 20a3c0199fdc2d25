-- The statements that a reader is sent to: a free made with its turn (RealMemory), as an event of its own inside the lock (LockedFree), what breaks without the rules (BrokenRules), and that
-- events that keep them exist (InTurn).
pub mod RealMemory
pub mod LockedFree
pub mod BrokenRules
pub mod InTurn
-- what they rest on, of any kind of run: real memory and the state of a run agree (Agreement), what a turn of AsyncDF changes (ActTurns), and when nothing is pending (NothingPending)
pub mod Agreement
pub mod ActTurns
pub mod NothingPending
