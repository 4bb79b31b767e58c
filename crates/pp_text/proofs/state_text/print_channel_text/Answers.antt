use Rattle.std.proofs.Common.{ℕ, ◌++◌, codes, sym, ap, ◌∙◌}
use Rattle.pp_channel.specs.History.{active}
use Rattle.pp_word.specs.Numeral.{octal}
use Rattle.pp_channel.specs.ChannelText.{channel_text}
use Rattle.pp_text.proofs.PrintingLemmas.{prints_on}
use Rattle.pp_text.proofs.state_text.print_channel_text.Goals as goal

pub returns-in-Some-clause-text : goal.returns-in-Some-clause-text
returns-in-Some-clause-text g c =
    prints_on _ _ _ _ _ _ _ c.print.ensures c.print-in-Some.ensures
    (ap (λ t. codes "ACTIVE FULL " ++ t) c.octal4.ensures ∙ ap (λ (n : ℕ). codes "ACTIVE FULL " ++ octal 4 n) c.get.ensures.value
    ∙ ap (channel_text (active c.args.channel.now)) (sym c.in-Some.is ∙ c.waiting.ensures.word))

pub returns-in-Some-clause-fits : goal.returns-in-Some-clause-fits
returns-in-Some-clause-fits g c = rw (← c.waiting.ensures.word, c.in-Some.is, ← c.get.ensures.value) c.get.ensures.small

pub returns-in-None-clause-text : goal.returns-in-None-clause-text
returns-in-None-clause-text g c = rw (← c.waiting.ensures.word, c.in-None.is, ← ap (λ f. f.active) c.flags.ensures, c.if-flags.true) c.print-in-None.ensures

pub returns-in-None-clause-fits : goal.returns-in-None-clause-fits
returns-in-None-clause-fits g c = rw (← c.waiting.ensures.word, c.in-None.is) tt
