pub mod Decimal
pub mod Placing
pub mod FactsText
pub mod Putting
pub mod Told
