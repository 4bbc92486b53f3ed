pub mod Limits
pub mod Touches
pub mod Refusals
pub mod Check
