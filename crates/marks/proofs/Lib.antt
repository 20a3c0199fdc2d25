pub mod Marked
pub mod Turns
pub mod CaseLaws
