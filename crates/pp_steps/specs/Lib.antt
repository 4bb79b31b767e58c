pub mod Choice
pub mod StepLine
pub mod HeldSpells
pub mod StepsText
pub mod StepsLaw
pub mod ShownStep
pub mod StepsWhere
-- cited by private contracts alone: nobody has to read these to believe what the crate promises
pub mod Cursor
