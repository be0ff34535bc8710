pub mod Growth
pub mod Lookup
pub mod Pairs
