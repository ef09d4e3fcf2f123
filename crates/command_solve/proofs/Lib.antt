pub mod SearchedLogs
pub mod ListEnds
pub mod SolveEnds
pub mod TurnNumbers
pub mod Completing
