pub mod RefusalNumbers
pub mod Saying
pub mod Determined
