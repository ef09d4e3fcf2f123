pub mod ModelsEnds
pub mod Names
pub mod RightEntries
pub mod OneEntry
pub mod Judged
pub mod Completing
