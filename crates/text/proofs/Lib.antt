pub mod Pages
pub mod Spelling
pub mod Determined
