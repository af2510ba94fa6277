pub mod Readers
pub mod Next
pub mod Outcomes
