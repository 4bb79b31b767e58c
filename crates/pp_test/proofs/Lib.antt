mod CountLemmas
mod EveryOrderLemmas
mod NearestLemmas
mod VerdictLemmas
