pub mod Lines
pub mod Blocks
pub mod Words
pub mod Numbers
pub mod Readers
pub mod Printed
pub mod Builder
pub mod Runs
