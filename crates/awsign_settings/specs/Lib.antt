pub mod Lines
pub mod Own
pub mod Settings
pub mod SettingsRun
pub mod UsedLaws
pub mod ValueLine
