pub mod Steps
pub mod Trails
