pub mod BadSteps
