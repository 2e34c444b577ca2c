pub mod BitSteps
pub mod StepTable
