pub mod Ranks
pub mod Sections
