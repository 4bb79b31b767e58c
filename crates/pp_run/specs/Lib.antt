pub mod RunSteps
pub mod StepCounts
pub mod BareMachine
pub mod Determinacy
