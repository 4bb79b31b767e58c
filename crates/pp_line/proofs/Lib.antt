mod CentralLemmas
mod ViewLemmas
mod RuleLemmas
mod StepLemmas
mod ShareLemmas
mod RecordedLemmas
mod LineKeeping
mod MonotoneLemmas
mod SeenLemmas
-- facts of the definitions, which proofs of other crates cite
pub mod ListFacts
pub mod ChannelWordLemmas
pub mod MergeLemmas
pub mod LineKnowledge
pub mod LineAnswers
pub mod OpeningLemmas
pub mod JoinedLines
pub mod OrderLemmas
