pub mod Conns
pub mod Hash
pub mod Shelf
pub mod Slots
pub mod Table
