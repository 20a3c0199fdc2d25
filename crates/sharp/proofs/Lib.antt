-- resting places under K, and who stands there: (R)
pub mod OffRests
pub mod Placed
pub mod Unheld
-- peaks with a count of threads that are off: C
pub mod OffPeaks
pub mod OffHeld
pub mod OffWithin
-- the need of a branch, and the load with each branch counted so: (W)
pub mod Needs
pub mod NeedTakes
pub mod NeedLaw
-- peaks under both laws: CE
pub mod NeedPeaks
pub mod NeedHeld
pub mod NeedWithin
pub mod NeedRises
-- rows of turns, and every list of calls
pub mod QuotaRows
pub mod QuotaLimit
