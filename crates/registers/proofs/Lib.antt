pub mod Making
pub mod Answering
pub mod Looking
