pub mod Widths
pub mod Sources
pub mod Shared
pub mod Sharing
pub mod Reach
