pub mod Walk
pub mod WalkBefore
