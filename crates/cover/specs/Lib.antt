pub mod Cones
pub mod Triangles
pub mod Room
pub mod Sets
