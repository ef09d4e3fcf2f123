pub mod StoredLines
pub mod Asking
pub mod Beginnings
pub mod Rising
