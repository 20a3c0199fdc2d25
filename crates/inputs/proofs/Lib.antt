pub mod Given
pub mod Lines
pub mod Tables
pub mod Within
pub mod ReadBack
