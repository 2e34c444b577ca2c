pub mod Remembering
pub mod Determined
