mod AnswerLemmas
mod ByteLemmas
mod TestAnswerLemmas
