pub mod PartedLaws
pub mod MappedLaws
