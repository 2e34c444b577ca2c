pub mod Syntax
pub mod Programs
