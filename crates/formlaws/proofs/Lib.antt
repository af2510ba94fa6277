pub mod AlikeLaws
pub mod Theorems
