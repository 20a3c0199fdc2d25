-- what is sound
pub mod Clauses
pub mod Balances
pub mod Sharing
pub mod Facts
pub mod Tests
pub mod Done
pub mod Shares
pub mod Leftmost
pub mod WorkerSet
