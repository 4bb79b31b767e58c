pub mod Column
pub mod Claim
pub mod Instruction
pub mod InstructionEffect
pub mod ForeseenLaw
pub mod WordsInFields
-- cited only by private contracts: nobody has to read these to believe what the crate promises
pub mod FieldsBefore
