pub mod Fields
pub mod LineRefusals
pub mod Lines
pub mod LineTexts
pub mod Shapes
pub mod Values
