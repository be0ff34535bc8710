pub mod SizeLaws
pub mod MapLaws
pub mod PairLaws
