pub mod Edits
pub mod Room
pub mod Filters
pub mod Tasks
pub mod Places
pub mod Few
