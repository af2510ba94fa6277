pub mod KindLaws
pub mod BoundLaws
pub mod AloneLaws
