pub mod Keys
pub mod Pools
pub mod Table
pub mod Tally
