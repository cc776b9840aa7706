pub mod Appended
pub mod Kept
pub mod Pieces
pub mod Ram
