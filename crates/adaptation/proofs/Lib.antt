pub mod AdaptationFields
pub mod Determined
