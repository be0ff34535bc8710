pub mod Regions
pub mod Matches
pub mod Certificates
pub mod CutTrees
pub mod Walks
pub mod FindingTexts
