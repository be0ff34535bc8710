pub mod BlockLaws
pub mod SumLaws
pub mod TrieLaws
