pub mod Seen
pub mod Fed
pub mod WrongReaders
pub mod Read
pub mod Remembered
