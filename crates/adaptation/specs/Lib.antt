pub mod Syntax
pub mod AdaptationField
