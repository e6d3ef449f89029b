pub mod FieldLaws
pub mod LineLaws
pub mod Options
pub mod TwoFields
