pub mod ListsLaws
pub mod Theorems
