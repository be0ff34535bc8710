pub mod State
pub mod Machine
pub mod Numbers
pub mod Serial
