-- promises between the parts of the code
pub mod Rows
pub mod Steps
