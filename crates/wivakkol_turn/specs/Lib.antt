pub mod Actions
pub mod ActionCases
