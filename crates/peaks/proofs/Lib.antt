-- counting, the children that stand open, and held memory against weights of threads
pub mod Counts
pub mod Opens
pub mod Weights
-- loads and peaks; the peak theorem
pub mod Loads
pub mod Peaks
pub mod Held
-- the load law
pub mod Takes
pub mod LoadLaw
-- resting places
pub mod Unpreempted
pub mod Rises
pub mod Resting
-- one worker, the parallel peak, sizes
pub mod OneWorker
pub mod PeakSizes
pub mod Parallel
pub mod Useful
-- the filled-out table has the peaks of the table as given
pub mod FilledPeak
-- rows of turns from the beginning
pub mod RowPeaks
