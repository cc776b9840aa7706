pub mod Fresh
pub mod Sectors
