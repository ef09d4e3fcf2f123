pub mod Bounds
pub mod Blocking
pub mod Ended
pub mod Limits
pub mod Served
pub mod OneProblem
pub mod Faults
pub mod Seen
