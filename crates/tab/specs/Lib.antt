pub mod Grammar
pub mod Reader
pub mod Fields
pub mod Agree
pub mod Checks
pub mod Places
pub mod Lines
