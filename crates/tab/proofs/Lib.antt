pub mod Fields
pub mod Agree
pub mod Checks
pub mod ReaderLaws
pub mod LineLaws
