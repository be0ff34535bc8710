pub mod Access
pub mod AccessLists
pub mod Decisions
pub mod Compiled
