pub mod GrowLaws
pub mod HeldLaws
pub mod LookLaws
pub mod RankLaws
pub mod SlotLaws
