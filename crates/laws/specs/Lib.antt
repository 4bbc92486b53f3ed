pub mod Numbers
pub mod Lists
pub mod Fractions
pub mod Doubles
