pub mod States
pub mod HandedBack
pub mod Determined
