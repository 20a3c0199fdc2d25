pub mod Since
pub mod Pace
pub mod Stands
pub mod Worked
