use Rattle.pp_text.proofs.InstructionReadLemmas.{second_in_text, word_in_text}
use Rattle.pp_text.proofs.laws.instruction_law.Goals as goal

pub returns : goal.returns
returns c = record {
  word = λ place word m within low small. word_in_text place word m low small within;
  second = second_in_text;
}
