pub mod RegionLaws
pub mod MatchLaws
pub mod CertificateLaws
pub mod CutLaws
pub mod TreeLaws
pub mod WalkLaws
pub mod FindingLaws
