pub mod DequeListing
pub mod DequeListingCases
