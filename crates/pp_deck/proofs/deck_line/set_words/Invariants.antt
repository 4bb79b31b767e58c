use Rattle.std.proofs.Common.{◌≡◌, ◌≤◌, length}
use Rattle.pp_word.specs.Address.{place_count}
use Rattle.pp_deck.specs.DeckLine.{words_in}
use Rattle.pp_deck.specs.Reading.{loaded_from, on_read}
use Rattle.pp_deck.specs.declared.flaw.Flaw.TheVariants.{PastEnd}
use Rattle.pp_deck.proofs.deck_line.set_words.Given as goal

abbrev pub invariant-loop-field : goal.invariant-loop-field
invariant-loop-field l = record {
  within : l.place ≤ place_count;
  rest : on_read (λ ws. loaded_from l.place ws l.pp) (words_in 4 l.place place_count PastEnd l.fields) ≡ on_read (λ ws. loaded_from l.fn.first ws l.fn.pp) (words_in 4 l.fn.first place_count PastEnd l.fn.fields);
}

abbrev pub decreases-loop-field : goal.decreases-loop-field
decreases-loop-field l = length l.fields
