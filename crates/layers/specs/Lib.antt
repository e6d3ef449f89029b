pub mod Below
pub mod Windows
pub mod Permutations
pub mod Permuting
