-- the rows of open children, a step, and a walk over a body
pub mod OpenRows
pub mod BalanceAlong
pub mod Steps
pub mod Walked
-- all threads, and the answers
pub mod Filled
pub mod Answers
-- the parallel peak
pub mod Passed
pub mod PassedDown
-- what is read off the actions one by one
pub mod RiseAlong
pub mod Readings
