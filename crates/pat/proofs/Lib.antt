pub mod Programs
pub mod Walk
pub mod Determined
