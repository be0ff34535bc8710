pub mod WayLaws
pub mod KeptLaws
