pub mod Forms
pub mod Shadows
pub mod Outputs
pub mod Outcome
pub mod Statuses
