pub mod Powers
pub mod Rows
pub mod Shape
pub mod Bounds
pub mod Allowed
pub mod Indexes
