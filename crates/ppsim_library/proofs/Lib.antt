mod WordLemmas
mod WorkLemmas
