pub mod Results
pub mod Whole
pub mod Small
pub mod Effects
