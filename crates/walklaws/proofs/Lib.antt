pub mod RestLaws
pub mod OpenLaws
pub mod WalkLaws
pub mod CursorLaws
pub mod LandLaws
pub mod StartLaws
pub mod RuleLaws
pub mod MoveLaws
