pub use Rattle.front_set.specs.ListText
pub mod Lines
pub mod Spelling
pub mod Reading
pub mod ModelsText
pub mod ModelsSpelling
pub mod ModelsReading
