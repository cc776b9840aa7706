pub mod Cut
pub mod Parsing
