pub mod Services
pub mod Blocks
pub mod Items
pub mod Tops
pub mod Objects
pub mod Groups
pub mod Forms
