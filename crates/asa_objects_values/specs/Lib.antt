pub mod Sizes
pub mod Spreads
pub mod Tables
pub mod Definition
pub mod Drafts
pub mod ItemOrder
