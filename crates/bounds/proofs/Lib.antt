-- the rule with b, batches, what they draw
pub mod Ages
pub mod KeepsTest
pub mod Rounds
pub mod Enables
pub mod Counting
pub mod Batches
pub mod Draws
pub mod RowBounds
pub mod Listed
-- a cost that covers the allocs of a table whose allocs above K are delayed (N6): K at the first action of a dummy
pub mod Dummies
pub mod Covers
pub mod Bound
pub mod FrontParts
-- how many turns at most (N8)
pub mod Potential
pub mod Lowers
pub mod Finishing
-- the statements that a reader is sent to
pub mod Limit
pub mod ThreadLimit
pub mod RoundsLimit
pub mod PeakLimit
pub mod Most
