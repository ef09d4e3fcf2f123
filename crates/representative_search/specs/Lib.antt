pub use Rattle.proof_text.specs.LogParts
pub use Rattle.representatives.specs.Representatives
pub use Rattle.representatives.specs.Bounded
pub mod Gathered
pub mod Seeking
pub mod Further
