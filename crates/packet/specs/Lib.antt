pub mod Syntax
pub mod Header
pub mod Counter
pub mod Payload
