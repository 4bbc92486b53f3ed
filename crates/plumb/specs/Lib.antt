pub mod Held
pub mod Fractions
pub mod FractionOrder
pub mod Bounds
pub mod Plumb
