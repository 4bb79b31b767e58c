use Rattle.std.proofs.Common.{◌≡◌, ℕ, ◌/◌, ◌%◌, ◌^◌, List, ◌++◌, append_assoc, codes}
use Rattle.pp_word.specs.Numeral.{decimal, digits, octal, unpadded}
use Rattle.pp_text.specs.PrintedText.{line_end}
use Rattle.pp_text.proofs.PrintingLemmas.{◌▹◌, prints_on}
use Rattle.pp_report.proofs.report_line.print_numbered_event.Goals as goal

regrouped : (start upper lower named author blank said end : List ℕ)
    → start ++ upper ++ (lower ++ named ++ author ++ blank) ++ (said ++ end) ≡ start ++ (upper ++ lower) ++ named ++ author ++ blank ++ said ++ end
regrouped start upper lower named author blank said end = simp append_assoc

-- its channel, what stands before the last six digits of its number, those digits and the author, what happened
numbered_line_in_pieces : (heading : List ℕ) (c number author : ℕ) (said : List ℕ)
    → heading ≡ digits 10 6 (number % 10 ^ 6) ++ codes " PP" ++ octal 2 author ++ codes " "
    → codes "CH" ++ octal 2 c ++ codes " " ++ unpadded 14 (number / 10 ^ 6) ++ heading ++ (said ++ line_end)
    ≡ codes "CH" ++ octal 2 c ++ codes " " ++ decimal number ++ codes " PP" ++ octal 2 author ++ codes " " ++ said ++ line_end
unfolding decimal
numbered_line_in_pieces heading c number author said is =
    rw is
    (regrouped (codes "CH" ++ octal 2 c ++ codes " ") (unpadded 14 (number / 10 ^ 6)) (digits 10 6 (number % 10 ^ 6))
    (codes " PP") (octal 2 author) (codes " ") said line_end)

pub returns-clause-text : goal.returns-clause-text
returns-clause-text g c =
    prints_on _ _ _ _ _ _ _
    ((rw c.channel_name.ensures at c.print.ensures) ▹ c.print-2.ensures ▹ c.print_upper_digits-lower.ensures.text ▹ c.print-3.ensures) c.print_event_end.ensures.text
    (numbered_line_in_pieces _ c.args.c c.args.number c.args.author _ (rw c.print_upper_digits-lower.ensures.rest at c.author_heading.ensures.text))
