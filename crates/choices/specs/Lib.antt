pub mod Regions
pub mod ChoiceForms
