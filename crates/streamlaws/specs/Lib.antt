pub mod Partly
pub mod Joined
pub mod Underway
