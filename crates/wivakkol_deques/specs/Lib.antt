pub mod DequeLent
pub mod DequeLentCases
pub mod ChoiceRows
pub mod ChoiceRowCases
