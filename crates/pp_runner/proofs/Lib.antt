mod LogLemmas
mod AccessLemmas
mod LateAccesses
mod ReplyLemmas
mod LineLemmas
mod EndLemmas
mod CrewLemmas
mod OpeningLemmas
mod ReportLemmas
-- facts of the definitions, which proofs of other crates cite
pub mod WorkerStateLemmas
