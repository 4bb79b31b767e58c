mod PairLemmas
mod WriteLemmas
mod TextWriterLemmas
mod InstructionLemmas
pub mod InstructionReadLemmas
mod OctalLemmas
mod OrderTextLemmas
-- facts of the definitions, which proofs of other crates cite
pub mod PrintingLemmas
pub mod Telling
pub mod Format
pub mod Formats
pub mod TextLawLemmas
pub mod TextLemmas
pub mod HeldLemmas
pub mod HistoryLawLemmas
