-- the words of the tests, and the lists and sums that they are about
pub mod Words
pub mod Every
pub mod Lists
pub mod Totals
pub mod CountBelow
-- what an accepted table keeps, the 1DF-numbers of its actions, sums along serial order, its joins and levels
pub mod Lawful
pub mod Places
pub mod Numbers
pub mod SerialSums
pub mod Joins
pub mod Depth
