pub use Rattle.oracle.specs.Solving
pub use Rattle.cdcl_trail.specs.SearchTrail
pub use Rattle.cdcl_trail.specs.Learning
pub mod StoredLines
pub mod SearchLines
