pub mod FrontLaws
pub mod PlaceLaws
pub mod GoodLaws
pub mod WroteLaws
pub mod PhraseLaws
