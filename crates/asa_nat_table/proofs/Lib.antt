pub mod EarlierLaws
pub mod FaultLaws
pub mod PairLaws
pub mod SameLaws
