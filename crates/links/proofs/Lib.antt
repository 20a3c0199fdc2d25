pub mod Filling
pub mod Reading
pub mod Laying
pub mod Comparing
