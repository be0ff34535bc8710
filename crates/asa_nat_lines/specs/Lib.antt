pub mod Grammar
pub mod Mapped
pub mod Options
pub mod Pairs
pub mod Pools
pub mod Rules
pub mod Services
