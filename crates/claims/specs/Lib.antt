pub mod LentCalls
pub mod Answers
pub mod MarkAnswers
pub mod LentMarkCalls
