pub mod Vectors
pub mod Raised
