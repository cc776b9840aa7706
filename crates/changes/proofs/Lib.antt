pub mod NewLaws
pub mod ChangeLaws
pub mod CarryLaws
