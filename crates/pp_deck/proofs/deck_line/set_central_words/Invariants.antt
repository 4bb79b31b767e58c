use Rattle.std.proofs.Common.{◌≡◌, ◌<◌, ◌^◌, length}
use Rattle.pp_deck.specs.DeckLine.{words_in}
use Rattle.pp_deck.specs.Reading.{with_central_words, on_read}
use Rattle.pp_deck.specs.declared.flaw.Flaw.TheVariants.{CentralRange}
use Rattle.pp_deck.proofs.deck_line.set_central_words.Given as goal

abbrev pub invariant-loop-field : goal.invariant-loop-field
invariant-loop-field g l = record {
  size : length l.machine.central ≡ length l.fn.machine.central;
  within : l.address < 2 ^ 18;
  rest : on_read (λ ws. with_central_words l.address ws l.machine) (words_in 20 l.address (length l.fn.machine.central) CentralRange l.fields) ≡ on_read (λ ws. with_central_words l.fn.first ws l.fn.machine) (words_in 20 l.fn.first (length l.fn.machine.central) CentralRange l.fn.fields);
}

abbrev pub decreases-loop-field : goal.decreases-loop-field
decreases-loop-field g l = length l.fields
