pub mod Words
pub mod Spelling
pub mod Paragraphs
pub mod Backs
pub mod Services
