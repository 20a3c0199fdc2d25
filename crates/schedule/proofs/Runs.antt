-- rows and calls
pub mod Replies
pub mod Rows
pub mod Histories
pub mod Values
pub mod Blank
