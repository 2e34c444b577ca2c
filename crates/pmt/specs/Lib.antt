pub mod Syntax
pub mod Start
pub mod Streams
