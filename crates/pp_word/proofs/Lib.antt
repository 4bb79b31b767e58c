mod EachBit
mod LogicLemmas
mod ShiftLemmas
-- facts of the definitions, which proofs of other crates cite
pub mod BitsLemmas
pub mod DisplayLemmas
pub mod NumeralLemmas
