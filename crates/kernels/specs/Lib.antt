pub mod Rows
pub mod Blocks
pub mod Masks
pub mod Ones
