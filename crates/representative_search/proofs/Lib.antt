pub mod BegunAnew
pub mod SearchStates
pub mod Refutations
pub mod Searches
pub mod FurtherModels
