pub mod KeptLaws
pub mod NetLaws
pub mod ApartLaws
pub mod ObjectLaws
pub mod ReadLaws
pub mod BindingLaws
pub mod TakenLaws
