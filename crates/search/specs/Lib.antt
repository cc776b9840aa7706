pub mod Find
pub mod Tries
