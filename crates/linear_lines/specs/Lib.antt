pub use Rattle.sum_outputs.specs.Adding
pub mod Stating
