pub mod SlashLaws
pub mod ChoiceLaws
