pub mod Names
pub mod OwnCalls
pub mod ReadBack
pub mod TrialEnds
pub mod Completing
