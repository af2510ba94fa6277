pub mod Formed
pub mod Kinds
pub mod Wrote
