pub mod BlockLaws
pub mod LineLaws
pub mod WordLaws
pub mod NumberLaws
pub mod RunLaws
pub mod AppendLaws
