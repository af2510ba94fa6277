pub mod LeadLaws
pub mod SourceLaws
pub mod SlotLaws
pub mod FewLaws
pub mod Theorems
