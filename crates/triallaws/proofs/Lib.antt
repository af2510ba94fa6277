mod WordLaws
mod SpanLaws
mod StartLaws
mod PositionLaws
pub mod RankLaws
pub mod PageLaws
pub mod TrialLaws
pub mod PairLaws
pub mod AnswerLaws
pub mod RowLaws
