pub mod SectionsForC
pub mod Determined
