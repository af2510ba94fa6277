pub mod ScreenLaws
pub mod ListLaws
