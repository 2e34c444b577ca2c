pub mod Starts
pub mod Streams
pub mod Walk
pub mod Determined
