mod ClaimLemmas
mod ColumnLemmas
mod ForeseenLawLemmas
mod InstructionLemmas
-- a fact of fields, which proofs of other crates cite
pub mod FieldLemmas
