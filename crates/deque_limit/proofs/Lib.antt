pub mod FromFacts
pub mod ChoiceAnswers
pub mod Holds
