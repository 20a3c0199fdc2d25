-- promises between the parts of the code
pub mod NumberWalk
pub mod NumbersOf
pub mod Rows
