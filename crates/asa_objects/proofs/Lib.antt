pub mod LineLaws
pub mod SizeLaws
pub mod StateLaws
pub mod FitLaws
pub mod DefineLaws
pub mod StackLaws
pub mod KeptLaws
pub mod FrameLaws
