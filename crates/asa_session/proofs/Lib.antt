pub mod EndsLaws
pub mod StartupLaws
pub mod OpeningLaws
pub mod ScriptLaws
pub mod SessionLaws
