pub mod Tags
pub mod Refusals
pub mod Lawful
pub mod Records
pub mod Cells
pub mod Decision
