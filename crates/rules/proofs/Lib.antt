pub mod SamplesHold
pub mod Unique
