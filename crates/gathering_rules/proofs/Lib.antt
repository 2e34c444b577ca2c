pub mod Answering
pub mod Checking
pub mod Starts
pub mod Determined
