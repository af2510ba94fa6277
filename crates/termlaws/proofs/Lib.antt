pub mod OrderLaws
pub mod SumLaws
pub mod PlaceLaws
pub mod WordLaws
pub mod PassedLaws
pub mod BlockLaws
pub mod ReadLaws
pub mod Theorems
