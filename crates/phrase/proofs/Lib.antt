pub mod PageLaws
mod StandLaws
