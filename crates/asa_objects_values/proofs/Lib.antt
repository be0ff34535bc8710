pub mod SpreadLaws
pub mod LabelLaws
pub mod ListLaws
pub mod ReachLaws
pub mod DraftLaws
pub mod OrderLaws
