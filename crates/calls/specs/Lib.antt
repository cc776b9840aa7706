pub mod Request
pub mod Resolve
pub mod Few
