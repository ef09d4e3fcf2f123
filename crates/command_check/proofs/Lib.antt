pub mod CheckEnds
pub mod Completing
