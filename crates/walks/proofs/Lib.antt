pub mod Walks
pub mod AsBefore
pub mod Determined
