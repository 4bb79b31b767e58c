mod HeadlineLemmas
mod RoundLemmas
mod DeadStartLemmas
mod QuietLemmas
mod TakenLemmas
-- facts of the definitions, which proofs of other crates cite
pub mod MachineStepLemmas
pub mod RunLemmas
pub mod OrderLemmas
