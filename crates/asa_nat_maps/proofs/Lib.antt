pub mod FirstLaws
pub mod MapLaws
pub mod PlaceLaws
pub mod ReachLaws
