pub mod LinesLemmas
pub mod OwnLemmas
pub mod SettingsLemmas
pub mod SettingsRunLemmas
pub mod UsedLemmas
pub mod ValueLineLemmas
