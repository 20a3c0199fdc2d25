pub mod Arrays
pub mod Turn
pub mod Counted
pub mod Packed
