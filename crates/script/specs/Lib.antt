pub mod Lines
pub mod Answers
pub mod Script
pub mod Values
pub mod FirstWord
pub mod ReadNumber
pub mod Cut
pub mod AnswerLaws
