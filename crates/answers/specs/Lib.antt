pub mod Numbers
pub mod Says
pub mod Refusals
