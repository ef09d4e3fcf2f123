pub mod FrontLaws
pub mod Minimal
pub mod Rising
