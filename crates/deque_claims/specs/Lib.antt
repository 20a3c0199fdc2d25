pub mod DequeAnswersOf
pub mod LentDequeCalls
