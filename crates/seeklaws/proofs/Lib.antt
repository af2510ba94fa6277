pub mod FirstLaws
pub mod JumpLaws
pub mod SeekLaws
pub mod LookLaws
pub mod ArmLaws
