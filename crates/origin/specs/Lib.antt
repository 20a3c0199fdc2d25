pub mod Origin
pub mod OriginCases
