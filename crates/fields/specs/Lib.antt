pub mod Laws
pub mod Sources
pub mod Halves
pub mod Lists
pub mod Columns
pub mod Lanes
