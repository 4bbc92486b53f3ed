pub mod Decimal
pub mod Room
