pub mod LineLaws
pub mod RouteLaws
