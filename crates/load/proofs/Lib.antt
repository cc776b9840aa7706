mod Counts
mod Judged
mod Rows
mod Steps
pub mod LoadLaws
pub mod LoadRefusals
