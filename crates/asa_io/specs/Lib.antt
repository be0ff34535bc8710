pub mod Faults
pub mod Told
pub mod Whole
pub mod InMemory
