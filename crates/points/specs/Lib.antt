pub mod Sizes
pub mod Whole
pub mod Doubles
pub mod Corners
