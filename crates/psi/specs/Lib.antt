pub mod Syntax
pub mod Header
pub mod Place
pub mod Body
