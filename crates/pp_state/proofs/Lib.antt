mod ChangeLemmas
mod WaitLemmas
mod MemoryTextLemmas
mod MemoryLawLemmas
mod StateTextLemmas
