mod Ordered
pub mod Inputs
pub mod Written
-- the worked cases
pub mod Worked
pub mod Starred
