pub mod ForcedLiterals
pub mod Conflict
pub mod Agreement
pub mod HintLines
pub mod HintedVariables
pub mod Lengths
pub mod ClauseFates
pub mod Negations
