pub mod UpgradeEnds
pub mod Completing
