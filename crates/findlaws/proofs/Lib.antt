pub mod FindLaws
pub mod StartLaws
