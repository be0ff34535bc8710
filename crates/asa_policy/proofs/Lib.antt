pub mod GatherLaws
pub mod ListLaws
pub mod PairLaws
