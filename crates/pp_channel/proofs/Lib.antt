mod CourseLemmas
mod ChannelStateLemmas
mod KeptLemmas
-- facts of the definitions, which proofs of other crates cite
pub mod HistoryWalk
pub mod HistoryLemmas
pub mod LawLemmas
pub mod AnswerLemmas
pub mod FrontLemmas
pub mod EachHistory
