pub mod Syntax
pub mod Parts
