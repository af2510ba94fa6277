pub mod Cards
pub mod Terms
