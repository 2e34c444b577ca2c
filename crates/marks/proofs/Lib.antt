pub mod Words
pub mod Marking
pub mod Determined
