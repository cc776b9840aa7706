pub mod Bits
pub mod Masks
pub mod Lanes
pub mod Rows
pub mod Halving
pub mod Strides
pub mod Copies
