pub mod AddLaws
pub mod PrefixLaws
pub mod PublishLaws
pub mod ReachLaws
pub mod StepLaws
