pub mod ReplyLaws
pub mod PrintLaws
pub mod ToldLaws
