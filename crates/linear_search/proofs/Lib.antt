pub mod Closings
pub mod Assuming
