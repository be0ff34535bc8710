pub mod Interfaces
pub mod Answers
pub mod Blocks
pub mod Routes
pub mod Times
pub mod Permits
