use Rattle.std.proofs.Common.{◌≡◌, ℕ, Bool, List, [], true, false, ap, refl, subst, ◌∙◌}
use Rattle.std.specs.Prelude.{if◌then◌else◌}
use Rattle.std.specs.List.{flat_map}
use Rattle.pp_numbers.specs.PpNo.{all_processors, is_named}
use Rattle.pp_machine.specs.MachineState.{processor_of}
use Rattle.pp_text.proofs.PrintingLemmas.{flat_of_flat}
use Rattle.pp_text.specs.TextWriter.{Prints}
use Rattle.pp_listing.specs.ListedLine.{ListedLine, text_line, text_of}
use Rattle.pp_listing.specs.Listing.{named_section, section_lines}
use Rattle.pp_listing.proofs.sections.print_sections.Goals as goal

if_named : (b : Bool) (lines : List ListedLine) → (if b then text_of lines else []) ≡ text_of (if b then lines else [])
if_named true lines = refl
if_named false lines = refl

pub returns : goal.returns
returns g c =
    let m = c.args.machine.now in
    let named = c.args.named.now in
    subst (Prints _ _ _)
    (ap (λ (f : ℕ → List ℕ). flat_map f all_processors) (λ k n. if_named (is_named named n) (section_lines n (processor_of n m)) k)
    ∙ flat_of_flat text_line (named_section named m) all_processors)
    c.print_each_named.ensures.text
