mod DumpLawLemmas
mod InstructionLemmas
mod ListedLemmas
mod ListingLemmas
mod RunDeckLemmas
mod StepLemmas
mod TextLemmas
-- facts of the definitions, which proofs of other crates cite
pub mod GoingOnLemmas
pub mod RestOfOrderLemmas
pub mod ListedLineLemmas
pub mod OrderCommentLemmas
