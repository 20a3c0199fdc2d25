-- bodies as lists, and tables that have them
pub mod Bodies
pub mod Built
pub mod ForkCounts
-- the trees of dummies, the threads that were there before, and the filled-out table's rules, order, peak and turns
pub mod Trees
pub mod Roots
pub mod OldThreads
pub mod Fills
pub mod FilledOrder
pub mod Balances
pub mod FilledTable
pub mod Peak
pub mod Delay
pub mod Delayed
pub mod Turns
pub mod Runs
-- what the code that fills out rests on
pub mod BeforeSums
pub mod TreeSizes
pub mod Reading
pub mod Numbering
pub mod FilledRows
pub mod Measured
