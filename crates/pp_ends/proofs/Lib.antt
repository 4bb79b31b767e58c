pub mod MoveLemmas
pub mod StillLemmas
pub mod RepeatLemmas
pub mod ProgressMarkLemmas
pub mod QuietLemmas
pub mod FoundLemmas
pub mod OneEnding
pub mod FinalEnding
pub mod LoopLemmas
mod EndingTextLemmas
