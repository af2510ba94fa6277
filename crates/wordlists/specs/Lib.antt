pub mod Lying
pub mod Opened
