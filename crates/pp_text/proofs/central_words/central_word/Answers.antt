use Rattle.std.proofs.Common.{Option, ap, ℕ, ◌∙◌}
use Rattle.std.specs.Prelude.{unwrap_or}
use Rattle.std.proofs.lemmas.Option.{unwrap_or-slice_get}
use Rattle.pp_text.proofs.central_words.central_word.Goals as goal

pub returns : goal.returns
returns g c = c.get.ensures.value ∙ (c.unwrap_or.ensures ∙ (ap (λ (word : Option ℕ). unwrap_or word 0) c.read.ensures ∙ unwrap_or-slice_get c.args.central.now c.args.address 0))
