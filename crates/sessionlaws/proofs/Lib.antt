pub mod AnnounceLaws
pub mod LiveLaws
pub mod LayoutLaws
pub mod FrameLaws
pub mod AnswerLaws
pub mod FollowLaws
pub mod PutLaws
pub mod OnePageLaws
