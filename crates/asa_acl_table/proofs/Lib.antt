pub mod TableLaws
pub mod WeightLaws
mod UseLaws
mod SearchLaws
pub mod AnswerLaws
pub mod SameLaws
