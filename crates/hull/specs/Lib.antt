pub mod Whole
pub mod Start
pub mod Build
pub mod Inner
pub mod Place
