use Rattle.std.proofs.Common.{◌∙◌, All, ap, subst, sym, arith}
use Rattle.pp_word.specs.Address.{place_count}
use Rattle.pp_machine.specs.MachineState.{processor_of}
use Rattle.pp_state.specs.StateLaw.{IsNew, overwritten}
use Rattle.pp_state.proofs.ChangeLemmas.{all_new, overwritten_whole, section_words, words_of_central}
use Rattle.pp_state.proofs.WaitLemmas.{held_where_said, held_where_waits, says_where_waits, waits_where_held}
use Rattle.pp_state.proofs.laws.state_law.Goals as goal

pub returns-clause-memory : goal.returns-clause-memory
returns-clause-memory c = λ n before after m.
    ap (overwritten (processor_of n before).memory) (section_words n before after m)
    ∙ overwritten_whole (processor_of n before).memory (processor_of n after).memory place_count (sym m.new) (m.old ∙ sym m.new)

pub returns-clause-new_words : goal.returns-clause-new_words
returns-clause-new_words c = λ n before after m.
    subst (All (IsNew (processor_of n before).memory)) (sym (section_words n before after m)) (all_new (processor_of n before).memory (processor_of n after).memory place_count)

pub returns-clause-central : goal.returns-clause-central
returns-clause-central c = grind (arith, words_of_central, overwritten_whole)

pub returns-clause-new_central : goal.returns-clause-new_central
returns-clause-new_central c = grind (arith, words_of_central, all_new)

pub returns-clause-waits : goal.returns-clause-waits
returns-clause-waits c = λ n m all holds. (waits_where_held n m all holds, held_where_waits n m all holds)

pub returns-clause-held : goal.returns-clause-held
returns-clause-held c = grind (arith, waits_where_held, held_where_said, says_where_waits, held_where_waits)
