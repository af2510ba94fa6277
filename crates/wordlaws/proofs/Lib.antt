pub mod CheckLaws
pub mod FallLaws
pub mod WordLaws
pub mod LayLaws
pub mod StretchLaws
pub mod PieceLaws
pub mod ShapedLaws
