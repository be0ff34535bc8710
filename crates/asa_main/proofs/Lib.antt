pub mod WritingLaws
pub mod FindingLaws
pub mod RunLaws
