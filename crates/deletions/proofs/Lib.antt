pub mod Bits
pub mod Volume
