pub use Rattle.sum_outputs.specs.Adding
pub mod Meaning
pub mod Totalizing
pub mod Demanding
pub mod Reforming
pub mod Keeping
pub mod Knowing
