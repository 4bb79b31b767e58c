mod StatedLemmas
mod WordsLemmas
-- facts of the definitions, which proofs of other crates cite
pub mod DeckLawLemmas
pub mod DeadStartLemmas
pub mod FieldLemmas
pub mod FieldTextLemmas
pub mod LawLemmas
pub mod LoadedRangeLemmas
pub mod MemoryLemmas
pub mod ProgressLemmas
pub mod RangeLemmas
pub mod ReadingLemmas
pub mod SectionLemmas
pub mod SectionLinesLemmas
