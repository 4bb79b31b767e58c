pub mod Condition
pub mod SeenStep
pub mod Frame
pub mod Lane
pub mod DrawingText
pub mod DrawingLaw
