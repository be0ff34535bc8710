pub mod EntryLaws
pub mod IndexLaws
pub mod ShelfLaws
