pub mod Session
pub mod Layout
pub mod Follow
