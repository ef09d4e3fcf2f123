pub use Rattle.search_base.specs.Turns
pub mod Cycles
