pub mod PacedCalls
pub mod PacedRefines
pub mod PacedAnswers
