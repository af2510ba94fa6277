pub mod LyingLaws
pub mod OpenLaws
