pub mod Growth
pub mod Routes
pub mod Lookup
