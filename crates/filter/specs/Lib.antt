pub mod Filter
pub mod Fourths
pub mod Groups
pub mod Blocks
pub mod Pieces
pub mod NewFilter
pub mod Recent
