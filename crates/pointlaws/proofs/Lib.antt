pub mod NumberLaws
pub mod PointLaws
pub mod PointedLaws
pub mod NumberedLaws
