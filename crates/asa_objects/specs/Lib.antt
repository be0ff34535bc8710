pub mod BlockChanges
pub mod Expansions
pub mod Stacks
pub mod Frames
