-- promises between the parts of the code
pub mod LaidOut
