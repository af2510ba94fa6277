pub mod RunLaws
pub mod TurnLaws
