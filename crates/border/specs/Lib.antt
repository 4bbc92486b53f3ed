pub mod Marks
pub mod Cone
