pub mod RunStepLemmas
pub mod BareLemmas
pub mod StepFacts
pub mod Moments
pub mod AlikeLemmas
pub mod BarrelLemmas
