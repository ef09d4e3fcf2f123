pub mod Numbered
pub mod Enumerated
pub mod ListedFront
pub mod FrontEnds
pub mod Completing
