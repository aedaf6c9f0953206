pub mod StepLaws
pub mod KeptSteps
