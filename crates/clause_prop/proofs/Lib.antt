pub mod Assigned
pub mod Tables
pub mod Extensions
pub mod Forcing
pub mod Visits
pub mod Passes
pub mod StoredLines
pub mod TruthTable
