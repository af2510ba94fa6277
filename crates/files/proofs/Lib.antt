pub mod PutLaws
pub mod WordLaws
