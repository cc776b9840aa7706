pub mod LookupLaws
pub mod PartLaws
