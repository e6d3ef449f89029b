pub mod WindowViews
pub mod Naming
pub mod PermutedViews
