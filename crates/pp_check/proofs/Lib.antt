mod VerdictLemmas
-- facts of the definitions, which proofs of other crates cite
pub mod FaultLemmas
pub mod TraceLemmas
pub mod KeepsLemmas
pub mod OpeningLemmas
