pub mod CallsLaws
pub mod RequestLaws
mod FinishLaws
mod AgainLaws
mod WholeLaws
