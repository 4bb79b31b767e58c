pub mod Ending
pub mod Loops
pub mod EndsText
-- cited by private contracts alone
pub mod ProgressMark
pub mod Rounds
