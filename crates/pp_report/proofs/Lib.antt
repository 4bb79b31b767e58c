mod MachineLemmas
mod AnswerLemmas
mod WorkingLemmas
mod ServeLemmas
mod ReportLemmas
mod AuthorLemmas
mod EventLineLemmas
-- facts of the definitions, which proofs of other crates cite
pub mod LoadedLemmas
pub mod ReportLawLemmas
