pub mod Clauses
pub mod Answering
