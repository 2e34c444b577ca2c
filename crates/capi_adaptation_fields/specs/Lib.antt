pub mod AdaptationFields
