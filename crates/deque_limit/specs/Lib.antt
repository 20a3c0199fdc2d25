pub mod ChoiceLimit
pub mod Line
pub mod Asked
pub mod ChoiceCases
