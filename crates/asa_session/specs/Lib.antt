pub mod Refusals
pub mod Startup
pub mod Openings
pub mod Scripts
pub mod Directions
pub mod Sessions
pub mod StartupTexts
pub mod Readiness
