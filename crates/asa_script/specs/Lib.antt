pub mod Drafts
pub mod Lanes
pub mod Scripts
