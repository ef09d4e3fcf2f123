pub use Rattle.proof_laws.specs.Earned
pub use Rattle.search_base.specs.Laws
pub use Rattle.search_base.specs.Turns
pub mod Counting
pub mod Exchanging
pub mod Boosting
