pub mod Names
pub mod Uses
pub mod Lists
pub mod Limits
