pub use Rattle.oracle.specs.Solving
pub mod Replies
pub mod Relaxations
pub mod Models
