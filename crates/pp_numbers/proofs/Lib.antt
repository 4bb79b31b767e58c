-- facts of the definitions, which proofs of other crates cite
pub mod ChannelNoLemmas
pub mod PpNoLemmas
pub mod ProfileLemmas
pub mod GappedNumberLemmas
-- and facts about lists that the standard library lacks
pub mod LastElements
pub mod TableLemmas
pub mod GrowingLists
pub mod Pieces
pub mod Subsequences
pub mod WrittenNumbers
