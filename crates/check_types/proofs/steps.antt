pub mod Answering
pub mod Maps
