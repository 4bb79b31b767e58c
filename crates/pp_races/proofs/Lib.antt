pub mod Watching
pub mod VerdictLemmas
mod TextLemmas
mod GrowLemmas
mod ByFlagsLemmas
mod CursorLemmas
mod EntryLemmas
mod EventLemmas
mod LookLemmas
mod MissedLemmas
mod SoundLemmas
mod RunLemmas
mod FinalLemmas
mod GoingOnLemmas
mod FoundLemmas
mod SettledLemmas
mod EndLemmas
mod UseLemmas
mod BeginLemmas
mod CloseLemmas
