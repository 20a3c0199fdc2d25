mod PairLines
-- the worked cases
pub mod DequeWorked
