pub mod Xor
pub mod Steps
pub mod Nibbles
pub mod Table
pub mod Determined
