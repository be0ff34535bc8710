pub mod RouteLaws
pub mod SoundLaws
pub mod TimeLaws
