pub mod TermsLaws
pub mod Theorems
