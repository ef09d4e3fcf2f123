pub use Rattle.proof_laws.specs.State
pub use Rattle.proof_laws.specs.Replay
pub use Rattle.proof_laws.specs.Earned
pub use Rattle.proof_rules.specs.Recording
pub mod Solving
