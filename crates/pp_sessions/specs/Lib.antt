pub mod TimedEvents
pub mod Stretches
pub mod SessionsText
pub mod SessionsLaw
pub mod ShownStretch
-- cited by private contracts alone: nobody has to read these to believe what the crate promises
pub mod OpenStretch
