pub mod Reach
pub mod Lists
pub mod Stretch
