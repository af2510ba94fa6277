pub mod NumberLaws
pub mod PageLaws
pub mod MapLaws
pub mod FormLaws
pub mod MapSoundLaws
pub mod Theorems
pub mod MapReadLaws
