pub use Rattle.clause_prop.specs.Steps
pub use Rattle.clause_prop.specs.Propagating
pub use Rattle.hint_rup.specs.Hints
pub use Rattle.proof_laws.specs.Earned
pub mod SearchTrail
pub mod Learning
pub mod Rank
