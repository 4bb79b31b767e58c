use Rattle.std.proofs.Common.{◌≡◌, ℕ, false, List, [], ◌∷◌, ◌++◌, codes, length, refl, sym, ap, ◌∙◌}
use Rattle.std.specs.Prelude.{◌==◌}
use Rattle.pp_channel.specs.History.{active, waiting}
use Rattle.pp_channel.specs.declared.event.Event.{Event}
use Rattle.pp_word.specs.Numeral.{octal}
use Rattle.pp_channel.specs.ChannelText.{channel_text}
use Rattle.pp_text.specs.PrintedText.{channel_line, line_end}
use Rattle.pp_text.proofs.PrintingLemmas.{◌▹◌, prints_on}
use Rattle.pp_text.proofs.state_text.print_channel_line.Goals as goal

full_line : (c : ℕ) (h : List Event) → (length h == 0) ≡ false → (((codes "CH" ++ octal 2 c) ++ codes " ") ++ channel_text (active h) (waiting h)) ++ line_end ≡ channel_line c h
full_line c [] is = cc
full_line c (e ∷ h) is = refl

pub returns-clause-text : goal.returns-clause-text
returns-clause-text g c =
    prints_on _ _ _ _ _ _ _ ((rw c.channel_name.ensures at c.print.ensures) ▹ c.print-2.ensures ▹ c.print_channel_text.ensures.text) c.print-3.ensures
    (full_line c.args.c c.args.channel.now (ap (λ h. length h == 0) (sym c.history.ensures.value) ∙ sym c.is_empty.ensures ∙ c.if-is_empty.false))
