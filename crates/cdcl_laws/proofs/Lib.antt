pub mod Stored
pub mod Counts
pub mod Places
pub mod SearchLines
pub mod Earned
pub mod NeverLong
pub mod Hinted
pub mod Fitting
