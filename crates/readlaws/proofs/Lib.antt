pub mod OneLaws
pub mod LastLaws
pub mod ReadLaws
pub mod FormLaws
pub mod NearLaws
pub mod PartLaws
