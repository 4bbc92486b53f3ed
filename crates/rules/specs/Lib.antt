pub mod Faces
pub mod Start
pub mod Building
pub mod Placing
pub mod Demands
pub mod Alike
pub mod Plumb
pub mod Heights
