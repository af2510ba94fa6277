pub mod MapLaws
pub mod ShiftLaws
