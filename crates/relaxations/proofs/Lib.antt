pub mod Boxing
pub mod Recordings
pub mod OpeningCalls
pub mod Excesses
pub mod Questions
pub mod Questioned
pub mod Denials
pub mod Cores
pub mod Calls
pub mod Telling
pub mod Told
pub mod LimitNumbers
pub mod Remaining
mod Proposals
pub mod Limited
pub mod LimitedCalls
mod RowTerms
pub mod Wanting
