pub use Rattle.oracle.specs.Solving
pub mod Ledgers
pub mod Levels
pub mod Work
pub mod Learnable
