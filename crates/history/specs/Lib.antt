pub mod Run
pub mod PageData
pub mod Course
pub mod ScriptLaws
pub mod ScriptMap
