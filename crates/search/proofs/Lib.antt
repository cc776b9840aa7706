pub mod Entries
pub mod Tries
pub mod Bits
pub mod Volume
pub mod Places
