pub mod ClauseEnds
pub mod Sums
pub mod Dominance
pub mod FaultLines
pub mod Assignments
pub mod EmptyFront
