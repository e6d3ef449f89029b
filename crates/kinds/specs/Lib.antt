pub mod KindNames
pub mod Texts
pub mod Words
