pub mod CallRefusals
pub mod Outcomes
pub mod Hints
