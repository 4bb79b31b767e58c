-- Texts and findings that are printed one after another, all of them or a first part.
use Rattle.std.proofs.Common.{◌≡◌, ◌≢◌, ℕ, List, [], ◌++◌, length, take, Option, Result, Ok, Err, refl, sym, ap, ◌∙◌, subst, append-nil, append_assoc, length-append, arith}
use Rattle.std.specs.Prelude.{flat_map, true}
use Rattle.std.specs.List.{list_all}
use Rattle.std.proofs.lemmas.Grind.{flat_map-append}
use Rattle.std.proofs.lemmas.Bool.{and_parts}
use Rattle.std.proofs.lemmas.List.{take-append-le, take_all}
use Rattle.std.proofs.lemmas.List.Folds.{list_all-append}
use Rattle.pp_text.specs.TextWriter.{HasPrinted, Prints}
use Rattle.pp_text.proofs.PrintingLemmas.{prints_on, prints_nothing}
use Rattle.pp_text.specs.Written.{AppendsFront, IsReportWritten, IsWritten}
use Rattle.pp_text.specs.declared.{report_fault.ReportFault.ReportFault, text_writer.TextWriter.TextWriter}
use Rattle.pp_races.specs.Printing.{PrintsFindings, PrintsFirst}
use Rattle.pp_races.specs.RacesText.{finding_line, findings_text, is_going_on, verdict_line, verdict_of}
use Rattle.pp_races.specs.declared.{finding.Finding.Finding, verdict.Verdict.Verdict}
use Rattle.pp_races.specs.declared.verdict.Verdict.TheVariants.{MayDiffer, Same}
use Rattle.pp_races.proofs.SoundLemmas.{none_first}
use Rattle.pp_races.proofs.VerdictLemmas.{differ_some, same_none}
use Rattle.pp_machine.specs.MachineState.{MachineState}
use Rattle.pp_races.specs.Findings.{findings}
use Rattle.pp_races.specs.Watch.{unwatched, watched}
use Rattle.pp_races.proofs.GrowLemmas.{begins_so_far}

text_is : (all : List Finding) → findings_text all ≡ flat_map finding_line all ++ verdict_line (verdict_of all)
unfolding findings_text
text_is all = refl

module _ {W : Type 0} (contents : W → Option (List ℕ)) where
  pub all_printed : (a b c : TextWriter W) (v : Verdict) (all : List Finding) → PrintsFindings contents a b Same v all → Prints contents b c (verdict_line v) → Prints contents a c (findings_text all)
  all_printed a b c v all lines last =
      prints_on contents a b c (flat_map finding_line all) (verdict_line v) (findings_text all) lines.lines last
      (ap (λ (u : Verdict). flat_map finding_line all ++ verdict_line u) (lines.verdict [] refl) ∙ sym (text_is all))

  -- where the lines that are printed come to nothing there is none
  pub nothing_printed : (a b : TextWriter W) (v : Verdict) (all : List Finding) → v ≡ Same → PrintsFirst contents a b Same v all → Prints contents a b []
  nothing_printed a b v all is h = subst (λ (some : List Finding). Prints contents a b (flat_map finding_line some)) (same_none h.first (sym is ∙ h.printed.verdict [] refl)) h.printed.lines

  -- of a text that a fault cuts short, a first part is printed; for lack of memory nothing
  abbrev pub IsCutShort : (old new : TextWriter W) → List ℕ → ReportFault → Type 0
  IsCutShort old new text ReportFault.Write = (first : List ℕ) × (others : List ℕ) × (text ≡ first ++ others) × Prints contents old new first
  IsCutShort old new text ReportFault.Memory = Prints contents old new []

  -- else they are a first part of the text, and something is found
  pub part_printed : (a b : TextWriter W) (v : Verdict) (all : List Finding) → PrintsFirst contents a b Same v all → IsCutShort a b (findings_text all) ReportFault.Write
  part_printed a b v all h = (
    flat_map finding_line h.first,
    flat_map finding_line h.others ++ verdict_line (verdict_of all),
    text_is all ∙ ap (λ x. x ++ verdict_line (verdict_of all)) (ap (λ x. flat_map finding_line x) h.all ∙ flat_map-append finding_line h.first h.others)
        ∙ append_assoc (flat_map finding_line h.first) (flat_map finding_line h.others) (verdict_line (verdict_of all)),
    h.printed.lines,
  )

  pub some_printed : (a b : TextWriter W) (v : Verdict) (all : List Finding) → PrintsFirst contents a b Same v all → v ≢ Same → all ≢ []
  some_printed a b v all h other none = other (h.printed.verdict [] refl ∙ ap verdict_of (none_first h.first h.others (sym h.all ∙ none)))

  -- where they come to more than processors that go on, so do all
  pub some_race : (a b : TextWriter W) (v : Verdict) (all : List Finding) → PrintsFirst contents a b Same v all → v ≡ MayDiffer → list_all is_going_on all ≡ true → ⊥
  some_race a b v all h is going =
      let first = (and_parts (list_all is_going_on h.first) (list_all is_going_on h.others) (sym (list_all-append is_going_on h.first h.others) ∙ sym (ap (list_all is_going_on) h.all) ∙ going)).0 in
      differ_some h.first (sym (h.printed.verdict [] refl) ∙ is) first

  -- ---- what the writer has

  front_of : {E : Type 0} (text others : List ℕ) (written : Result (Unit {0}) E) (old new : Option (List ℕ)) → IsWritten text written old new → AppendsFront old new (text ++ others)
  front_of text others (Ok done) old new h = (length text, omega (arith, length-append text others), rw (take-append-le (length text) text others (omega arith), take_all (length text) text (omega arith)) h)
  front_of text others (Err f) old new (count, within, h) = (count, omega (arith, within, length-append text others), rw (take-append-le count text others within) h)

  -- a text of which a first part is printed, where the writer has what is printed, or a first part of it
  pub cut_written : {E : Type 0} (a b : TextWriter W) (text : List ℕ) (f : ReportFault) (written : Result (Unit {0}) E) (old new : Option (List ℕ)) → IsCutShort a b text f → HasPrinted contents old [] a
      → ((start : Option (List ℕ)) (all : List ℕ) → HasPrinted contents start all b → IsWritten all written start new) → IsReportWritten text (Err f) old new
  cut_written a b text ReportFault.Write written old new (first, others, is, prints) begun ends = subst (λ (x : List ℕ). AppendsFront old new x) (sym is) (front_of first others written old new (ends old first (prints.goes_on old [] begun)))
  cut_written a b text ReportFault.Memory written old new prints begun ends = grind (arith, append-nil)

module _ {W : Type 0} (contents : W → Option (List ℕ)) where
  -- a text, and then one of two parts
  pub prints_parts : (a b c : TextWriter W) (xs ys zs : List ℕ) → Prints contents a b xs → Prints contents b c (ys ++ zs) → Prints contents a c (xs ++ ys ++ zs)
  prints_parts a b c xs ys zs first next = prints_on contents a b c xs (ys ++ zs) _ first next (sym (append_assoc xs ys zs))

  pub findings_none : (text : TextWriter W) (verdict : Verdict) → PrintsFindings contents text text verdict verdict []
  findings_none text verdict = grind (arith, prints_nothing, append-nil)

  pub findings_then : (a b c : TextWriter W) (u v w : Verdict) (some more : List Finding) → PrintsFindings contents a b u v some → PrintsFindings contents b c v w more
      → PrintsFindings contents a c u w (some ++ more)
  findings_then a b c u v w some more first next = grind (arith, prints_on, flat_map-append, append_assoc)

  -- some findings, and then what makes them these
  pub findings_on : (a b c : TextWriter W) (u v w : Verdict) (some more all : List Finding) → PrintsFindings contents a b u v some → PrintsFindings contents b c v w more
      → some ++ more ≡ all → PrintsFindings contents a c u w all
  findings_on a b c u v w some more all first next is = subst (PrintsFindings contents a c u w) is (findings_then a b c u v w some more first next)

  -- what is found of the first turns is the first that is found
  pub first_printed : (a b : TextWriter W) (v : Verdict) (ns : List ℕ) (t : ℕ) (m : MachineState)
      → PrintsFindings contents a b Same v (watched (take t ns) m unwatched).findings → PrintsFirst contents a b Same v (findings ns m)
  first_printed a b v ns t m printed =
      let begins = begins_so_far ns t m in
      record { first = (watched (take t ns) m unwatched).findings; others = begins.0; all = begins.1; printed = printed }
