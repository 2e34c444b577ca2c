pub mod Packets
pub mod Determined
