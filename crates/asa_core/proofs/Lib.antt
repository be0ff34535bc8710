pub mod StateLaws
pub mod PhaseLaws
pub mod NumberLaws
