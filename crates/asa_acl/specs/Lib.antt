pub mod Fingerprints
pub mod Acls
