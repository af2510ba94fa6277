pub mod StoreLaws
pub mod FillLaws
pub mod SideLaws
pub mod PassLaws
pub mod PartLaws
pub mod FinishLaws
pub mod RiseLaws
pub mod WriteLaws
