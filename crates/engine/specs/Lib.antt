pub mod Sound
pub mod Steps
pub mod Instances
pub mod StepLaws
pub mod Rows
pub mod Calls
