pub mod Checks
pub mod Start
pub mod Verdict
