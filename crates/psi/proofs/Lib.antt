pub mod Sections
pub mod Determined
