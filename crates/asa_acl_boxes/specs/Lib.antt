pub mod Meanings
pub mod Boxes
pub mod Pairs
