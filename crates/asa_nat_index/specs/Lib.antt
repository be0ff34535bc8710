pub mod Entries
pub mod Index
pub mod Matches
pub mod Shelves
