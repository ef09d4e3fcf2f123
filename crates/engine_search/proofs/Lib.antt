pub mod LiveClauses
pub mod EngineCores
pub mod ReachedModels
