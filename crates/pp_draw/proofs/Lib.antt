mod RowLemmas
mod LaneLemmas
mod BandLemmas
mod LawLemmas
mod ConditionLemmas
mod TurnLemmas
mod SeenLemmas
