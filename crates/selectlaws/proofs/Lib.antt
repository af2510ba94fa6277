pub mod ByteLaws
pub mod SelectLaws
