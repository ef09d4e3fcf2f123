pub use Rattle.oracle.specs.Solving
