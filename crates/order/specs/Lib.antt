pub mod Words
pub mod Firsts
pub mod Order
pub mod Turns
