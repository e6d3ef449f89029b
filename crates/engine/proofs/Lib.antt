pub mod Rows
pub mod Stepping
pub mod Wholes
pub mod Counting
pub mod Opening
