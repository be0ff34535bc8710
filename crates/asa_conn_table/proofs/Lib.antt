pub mod MirrorLaws
pub mod OrderLaws
pub mod ShelfLaws
pub mod TableLaws
