pub mod Computing
pub mod Example
pub mod Trace
pub mod FirstFilter
pub mod LoadExample
pub mod CutExample
pub mod RefusalTable
