pub mod CountLaws
pub mod KeyLaws
pub mod NumberLaws
pub mod TableLaws
pub mod TallyLaws
