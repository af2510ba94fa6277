pub mod CheckLaws
pub mod Theorems
