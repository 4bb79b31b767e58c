mod BlockLemmas
mod BlockResultLemmas
mod SignLemmas
mod ForeseenLemmas
mod NextPlaceLemmas
mod StoredLemmas
mod StoreLemmas
-- facts of the definitions, which proofs of other crates cite
pub mod ReplayLemmas
pub mod MemoryLemmas
pub mod EachStep
pub mod StepLemmas
pub mod PositionLemmas
