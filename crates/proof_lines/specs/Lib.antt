pub use Rattle.proof_laws.specs.WellFormed
pub mod Ids
pub mod Pieces
pub mod LineText
pub mod Spaces
pub mod Reading
pub mod Witnessed
pub mod Kinds
