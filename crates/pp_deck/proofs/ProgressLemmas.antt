-- Reading lines one after another leaves what they load all together.
use Rattle.std.proofs.Common.{◌≡◌, ℕ, ◌<◌, Bool, true, false, cond, eqb, List, [], ◌∷◌, ◌++◌, get_or, replicate, Option, Some, None, refl, sym, ap, ◌∙◌, fold, append_assoc, append-nil, arith}
use Rattle.std.specs.Prelude.{filter_map, slice_index_or, slice_set}
use Rattle.std.specs.List.{list_any}
use Rattle.std.proofs.lemmas.Bool.{eqb-true}
use Rattle.std.proofs.lemmas.List.{set-get_or}
use Rattle.std.proofs.lemmas.List.Folds.{list_any-append}
use Rattle.pp_machine.specs.MachineState.{MachineState, new_machine}
use Rattle.pp_processor.specs.PpMemory.{empty_memory}
use Rattle.pp_processor.specs.Processor.{Processor, new_processor, no_processor, runs_from}
use Rattle.pp_numbers.specs.PpNo.{processor_count, processor_number, processor_index, each_processor}
use Rattle.pp_numbers.proofs.PpNoLemmas.{number_at}
use Rattle.pp_deck.specs.DeckLine.{Line, central_words, start, words}
use Rattle.pp_deck.specs.DeckLoad.{section_of, asks_dead_start, lines_for, start_in, memory_of, central_loaded, processor_with, processor_loaded, is_named}
use Rattle.pp_deck.specs.Reading.{Progress, before_lines, loaded_from, with_processor, after_line, after_lines, progress_of}
use Rattle.pp_deck.proofs.SectionLemmas.{machine_after, after_line_parts, names, lines_for_more, section_more}
use Rattle.pp_numbers.proofs.GrowingLists.{last_of, last_of_more, filter_map_more}
use Rattle.pp_numbers.proofs.TableLemmas.{get_or-tabulate, tabulate_same, tabulate_const, set-tabulate}
use Rattle.pp_deck.proofs.MemoryLemmas.{memory_none, memory_set, memory_kept, central_none, central_set, central_kept}
use Rattle.pp_numbers.specs.declared.profile.Profile.{Profile}

module _ (profile : Profile) where
  -- ---- a processor, by the lines for it

  by_own_lines : List Line → Processor
  by_own_lines lines = processor_with profile (memory_of lines) (last_of (filter_map start_in lines))

  -- what a line changes in its processor
  abbrev pub own_after : Line → Processor → Processor
  own_after (words x ws) pp = loaded_from x ws pp
  own_after (start p a) pp = runs_from p a pp
  own_after line pp = pp

  by_own_more : (lines : List Line) (line : Line) → by_own_lines (lines ++ line ∷ []) ≡ own_after line (by_own_lines lines)
  unfolding by_own_lines
  by_own_more lines line = grind (arith, memory_kept, last_of, memory_set, filter_map_more, last_of_more)

  -- ---- all processors

  processor_none : (n : ℕ) → processor_loaded profile [] n ≡ (new_processor profile)
  unfolding processor_loaded by_own_lines empty_memory lines_for
  processor_none n = grind (arith, by_own_lines, memory_none)

  -- the processors that lines load
  all_of : List Line → List Processor
  all_of lines = each_processor (processor_loaded profile lines)

  -- one processor changes, where there is a current one
  abbrev pub changed_at : Option ℕ → (Processor → Processor) → List Processor → List Processor
  changed_at None change all = all
  changed_at (Some m) change all = slice_set all (processor_index m) (change (slice_index_or all (processor_index m) no_processor))

  entry_changed : (lines : List Line) (line : Line) (m i : ℕ) → i < processor_count → section_of lines ≡ Some m → processor_loaded profile (lines ++ line ∷ []) (processor_number i) ≡ cond (eqb i (processor_index m)) (own_after line (get_or (all_of lines) (processor_index m) no_processor)) (processor_loaded profile lines (processor_number i))
  unfolding all_of processor_loaded by_own_lines
  entry_changed lines line m i lt e = grind (arith, own_after, number_at, all_of, get_or-tabulate, eqb-true, by_own_lines, lines_for_more, by_own_more, append-nil)

  all_changed : (lines : List Line) (line : Line) (current : Option ℕ) → section_of lines ≡ current → changed_at current (own_after line) (all_of lines) ≡ all_of (lines ++ line ∷ [])
  unfolding all_of processor_loaded by_own_lines
  all_changed lines line current e = grind (arith, tabulate_same, set-tabulate, all_of, entry_changed, by_own_lines, lines_for_more, by_own_more, append-nil)

  -- a line that changes none
  all_kept : (lines : List Line) (line : Line) → ((pp : Processor) → own_after line pp ≡ pp) → all_of (lines ++ line ∷ []) ≡ all_of lines
  all_kept lines line same = sym (all_changed lines line (section_of lines) refl) ∙ by (section_of lines)
    where
      by : (current : Option ℕ) → changed_at current (own_after line) (all_of lines) ≡ all_of lines
      by current = grind (arith, all_of, set-get_or)

  -- ---- the machine

  build : ℕ → List Processor → List ℕ → MachineState
  build size processors central = record (new_machine profile size) { processors = processors; central = central }

  both_built : (size : ℕ) (ps qs : List Processor) (cs ds : List ℕ) → ps ≡ qs → cs ≡ ds → build size ps cs ≡ build size qs ds
  both_built size ps qs cs ds e h = ap (λ (l : List Processor). build size l cs) e ∙ ap (build size qs) h

  changed_machine : (size : ℕ) (current : Option ℕ) (change : Processor → Processor) (ps : List Processor) (cs : List ℕ) → with_processor current change (build size ps cs) ≡ build size (changed_at current change ps) cs
  unfolding build
  changed_machine size current change ps cs = grind arith

  machine_of : ℕ → List Line → MachineState
  machine_of size lines = build size (all_of lines) (central_loaded size lines)

  machine_more : (size : ℕ) (lines : List Line) (line : Line) → machine_after (section_of lines) line (machine_of size lines) ≡ machine_of size (lines ++ line ∷ [])
  unfolding machine_of build
  machine_more size lines (central_words a ws) = sym (both_built size _ _ _ _ (all_kept lines (central_words a ws) (λ pp. refl)) (central_set size lines a ws))
  machine_more size lines (start p a) =
      changed_machine size (section_of lines) (runs_from p a) (all_of lines) (central_loaded size lines)
      ∙ both_built size _ _ _ _ (all_changed lines (start p a) (section_of lines) refl) (sym (central_kept size lines (start p a) (λ address. refl)))
  machine_more size lines (words x ws) =
      changed_machine size (section_of lines) (loaded_from x ws) (all_of lines) (central_loaded size lines)
      ∙ both_built size _ _ _ _ (all_changed lines (words x ws) (section_of lines) refl) (sym (central_kept size lines (words x ws) (λ address. refl)))
  machine_more size lines line = grind (arith, central_kept, both_built, all_kept)

  machine_none : (size : ℕ) → new_machine profile size ≡ machine_of size []
  unfolding machine_of build all_of
  machine_none size = sym (both_built size _ _ _ _ (tabulate_const processor_count (λ i. processor_loaded profile [] (processor_number i)) (new_processor profile) (λ i. processor_none (processor_number i))) (central_none size))

  -- ---- the names

  named_of : List Line → List Bool
  named_of lines = each_processor (is_named lines)

  any_more : (p : Line → Bool) (lines : List Line) (line : Line) → list_any p (lines ++ line ∷ []) ≡ cond (p line) true (list_any p lines)
  any_more p lines line = grind (arith, list_any-append)

  named_none : replicate processor_count false ≡ named_of []
  unfolding named_of
  named_none = sym (tabulate_const processor_count (λ i. is_named [] (processor_number i)) false (λ i. refl))

  -- ---- whether dead start was asked for

  -- ---- the progress

  progress_by : MachineState → List Bool → Option ℕ → Bool → Progress
  progress_by machine named current asked = record { machine = machine; named = named; current = current; asks_dead_start = asked }

  progress_is : (size : ℕ) (lines : List Line) → progress_of profile size lines ≡ progress_by (machine_of size lines) (named_of lines) (section_of lines) (asks_dead_start lines)
  unfolding progress_of progress_by machine_of build all_of named_of
  progress_is size lines = refl

  same_progress : (m n : MachineState) (bs cs : List Bool) (o p : Option ℕ) (a b : Bool) → m ≡ n → bs ≡ cs → o ≡ p → a ≡ b → progress_by m bs o a ≡ progress_by n cs p b
  same_progress m n bs cs o p a b e h k l = grind (arith, progress_by)

  progress_more : (size : ℕ) (lines : List Line) (line : Line) → after_line (progress_of profile size lines) line ≡ progress_of profile size (lines ++ line ∷ [])
  unfolding progress_by named_of
  progress_more size lines line = grind (arith, progress_is, machine_of, named_of, same_progress, machine_more, section_more, after_line_parts, progress_by, any_more, set-tabulate, tabulate_same, names, number_at)

  progress_none : (size : ℕ) → before_lines profile size ≡ progress_of profile size []
  unfolding before_lines progress_by section_of
  progress_none size = grind (arith, same_progress, machine_of, named_of, machine_none, named_none, progress_is)

  read_on : (size : ℕ) (lines more : List Line) → fold after_line (progress_of profile size lines) more ≡ progress_of profile size (lines ++ more)
  read_on size lines [] = ap (progress_of profile size) (sym (append-nil lines))
  read_on size lines (line ∷ more) = grind (arith, fold, progress_more, append_assoc, read_on size (lines ++ line ∷ []) more)

  -- lines that are read one after another load what they load all together
  pub after_lines_is : (size : ℕ) (lines : List Line) → after_lines profile size lines ≡ progress_of profile size lines
  unfolding after_lines
  after_lines_is size lines = ap (λ (p : Progress). fold after_line p lines) (progress_none size) ∙ read_on size [] lines
