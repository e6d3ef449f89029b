pub mod Sessions
pub mod Refusing
