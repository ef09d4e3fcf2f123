pub use Rattle.search_base.specs.Turns
pub use Rattle.relaxations.specs.Telling
pub mod Fences
pub mod Raising
