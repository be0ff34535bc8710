pub mod Flags
pub mod Lines
pub mod Packets
pub mod Words
