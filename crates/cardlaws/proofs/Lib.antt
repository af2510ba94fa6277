pub mod FrontLaws
pub mod TermsLaws
pub mod WalkLaws
pub mod PassedLaws
pub mod CardLaws
pub mod CloseLaws
pub mod ClosingLaws
pub mod Theorems
