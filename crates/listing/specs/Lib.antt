pub mod Listing
pub mod Cases
pub mod Sheets
