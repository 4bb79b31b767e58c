-- The lines of a deck, read one after another, up to the first fault.
use mathlib.Core.Bool.{or-false}
use Rattle.std.proofs.Common.{◌≡◌, ℕ, suc, ◌+◌, ◌-◌, ◌<◌, Bool, true, false, List, [], ◌∷◌, ◌++◌, length, take, get_or, Option, Result, Ok, Err, refl, sym, ap, ◌∙◌, arith, fold, lt-ltb}
use Rattle.std.specs.Prelude.{filter_map, option_to_list, is_some, ◌||◌}
use Rattle.std.specs.List.{list_any, range_with_len, cons_option}
use Rattle.std.proofs.lemmas.Bool.{or_right}
use Rattle.std.proofs.lemmas.List.{append-nil, get_or-replicate}
use Rattle.std.proofs.lemmas.List.Elements.{filter_map-append}
use Rattle.std.proofs.lemmas.List.Folds.{list_any_more}
use Rattle.std.proofs.lemmas.List.Sums.{fold-append}
use Rattle.pp_numbers.specs.ChannelNo.{channel_count, channel_index, channel_places}
use Rattle.pp_machine.specs.DeadStart.{IsBeforeFirstTurn}
use Rattle.pp_machine.specs.MachineState.{history_of}
use Rattle.pp_deck.specs.Flaw.{code_of}
use Rattle.pp_deck.specs.DeckLine.{Line, nothing, line_after}
use Rattle.std.specs.Result.{result_ok}
use Rattle.pp_deck.specs.DeckMeaning.{with_dead_start, has_fields, begins_section, line_at, size_of, fault_in, faults_in, parsed_deck, loaded, unless_faulty, meaning_of_lines}
use Rattle.pp_deck.specs.Reading.{Progress, before_lines, after_line, after_lines, progress_of, deck_so_far, on_read}
use Rattle.pp_deck.specs.declared.{deck_fault.DeckFault.DeckFault, flaw.Flaw.Flaw}
use Rattle.pp_deck.proofs.RangeLemmas.{section_after}
use Rattle.pp_deck.proofs.SectionLemmas.{after_line_parts}
use Rattle.pp_numbers.proofs.GrowingLists.{range_more, range_append, filter_map_more}
use Rattle.pp_deck.proofs.MemoryLemmas.{length-central_loaded}
use Rattle.pp_deck.proofs.ProgressLemmas.{after_lines_is}
use Rattle.pp_numbers.specs.declared.profile.Profile.{Profile}

module _ (profile : Profile) where
  pub fault_at : List (List (List ℕ)) → ℕ → Option DeckFault
  fault_at lines k = fault_in k (line_at profile (size_of lines) lines k)

  pub said_at : List (List (List ℕ)) → ℕ → Option Line
  said_at lines k = result_ok (line_at profile (size_of lines) lines k)

  -- the first k lines have no fault, and this is the progress behind them
  pub record ReadTo (lines : List (List (List ℕ))) (k : ℕ) (progress : Progress) (is_after_fields : Bool) : Type 0 where
    pub faultless : filter_map (fault_at lines) (range_with_len 0 k) ≡ []
    pub progress_is : progress ≡ after_lines profile (size_of lines) (filter_map (said_at lines) (range_with_len 0 k))
    pub behind : is_after_fields ≡ list_any has_fields (take k lines)
    pub in_section : is_some progress.current ≡ list_any begins_section (take k lines)

  pub read_none : (lines : List (List (List ℕ))) (progress : Progress) → progress ≡ before_lines profile (size_of lines) → ReadTo lines 0 progress false
  unfolding after_lines before_lines
  read_none lines progress e = grind arith

  one_first : (n : ℕ) → 1 + n ≡ suc n
  one_first n = omega arith

  -- what the next line is
  line_is : (lines : List (List (List ℕ))) (k : ℕ) (progress : Progress) (b : Bool) → ReadTo lines k progress b → line_at profile (size_of lines) lines k ≡ line_after profile (size_of lines) b (is_some progress.current) (get_or lines k [])
  unfolding line_at
  line_is lines k progress b h = grind arith

  from_zero : (k : ℕ) → 0 + k ≡ k
  from_zero k = omega arith

  one_more : {A : Type 0} (f : ℕ → Option A) (k : ℕ) → filter_map f (range_with_len 0 (k + 1)) ≡ filter_map f (range_with_len 0 k) ++ option_to_list (f k)
  one_more {A} f k = grind (arith, range_more, filter_map_more, from_zero)

  -- a line more, without a fault
  pub read_more : (lines : List (List (List ℕ))) (k : ℕ) (progress : Progress) (b : Bool) (line : Line) → ReadTo lines k progress b → k < length lines → line_after profile (size_of lines) b (is_some progress.current) (get_or lines k []) ≡ Ok line → ReadTo lines (k + 1) (after_line progress line) (b || has_fields (get_or lines k []))
  unfolding fault_at said_at after_lines
  read_more lines k progress b line h lt e =
      let there : line_at profile (size_of lines) lines k ≡ Ok line = line_is lines k progress b h ∙ e in
      record {
        faultless = grind (arith, one_more, fault_at, append-nil);
        progress_is = grind (arith, fold-append, said_at, fold, one_more);
        behind = ap (λ (t : Bool). t || has_fields (get_or lines k [])) h.behind ∙ sym (list_any_more has_fields lines k [] lt);
        in_section =
            ap (λ (p : Progress). is_some p.current) (after_line_parts progress line)
            ∙ section_after profile (size_of lines) b (is_some progress.current) (get_or lines k []) line progress.current e
            ∙ ap (λ (t : Bool). t || begins_section (get_or lines k [])) h.in_section ∙ sym (list_any_more begins_section lines k [] lt);
      }

  -- a line without fields
  pub read_blank : (lines : List (List (List ℕ))) (k : ℕ) (progress : Progress) (b : Bool) → ReadTo lines k progress b → k < length lines → get_or lines k [] ≡ [] → ReadTo lines (k + 1) progress b
  unfolding line_after after_line
  read_blank lines k progress b h lt e =
      let next = read_more lines k progress b nothing h lt (ap (line_after profile (size_of lines) b (is_some progress.current)) e) in
      let same : (b || has_fields (get_or lines k [])) ≡ b = ap (λ (fields : List (List ℕ)). b || has_fields fields) e ∙ or-false b in
      record { faultless = next.faultless; progress_is = next.progress_is; behind = sym same ∙ next.behind; in_section = next.in_section }

  -- central memory keeps its size
  pub central_length : (lines : List (List (List ℕ))) (k : ℕ) (progress : Progress) (b : Bool) → ReadTo lines k progress b → length progress.machine.central ≡ size_of lines
  unfolding progress_of
  central_length lines k progress b h = grind (arith, said_at, after_lines_is, length-central_loaded)

  -- the machine keeps its profile
  pub keeps_profile : (lines : List (List (List ℕ))) (k : ℕ) (progress : Progress) (b : Bool) → ReadTo lines k progress b → progress.machine.profile ≡ profile
  unfolding progress_of
  keeps_profile lines k progress b h = grind (arith, said_at, after_lines_is)

  -- what a line says, with the profile of the machine and the size that central memory has
  line_here : (lines : List (List (List ℕ))) (k : ℕ) (progress : Progress) (b : Bool) (line fields : List (List ℕ)) → ReadTo lines k progress b → line ≡ fields → line_after profile (size_of lines) b (is_some progress.current) line ≡ line_after progress.machine.profile (length progress.machine.central) b (is_some progress.current) fields
  line_here lines k progress b line fields h e = grind (arith, central_length, keeps_profile)

  read_as : (lines : List (List (List ℕ))) (k : ℕ) (progress new : Progress) (b : Bool) (r : Result Line Flaw) → ReadTo lines k progress b → k < length lines → has_fields (get_or lines k []) ≡ true → line_after profile (size_of lines) b (is_some progress.current) (get_or lines k []) ≡ r → on_read (after_line progress) r ≡ Ok new → ReadTo lines (k + 1) new true
  read_as lines k progress new b (Ok line) h lt some is e =
      let next = read_more lines k progress b line h lt is in
      let same : after_line progress line ≡ new = cc in
      let yes : (b || has_fields (get_or lines k [])) ≡ true = or_right b (has_fields (get_or lines k [])) some in
      record {
        faultless = next.faultless;
        progress_is = sym same ∙ next.progress_is;
        behind = sym yes ∙ next.behind;
        in_section = ap (λ (p : Progress). is_some p.current) (sym same) ∙ next.in_section;
      }
  read_as lines k progress new b (Err flaw) h lt some is e = absurd (cc)

  -- a line with fields
  pub read_fields : (lines : List (List (List ℕ))) (k : ℕ) (progress new : Progress) (b : Bool) (first : List ℕ) (fields : List (List ℕ)) → ReadTo lines k progress b → k < length lines → get_or lines k [] ≡ first ∷ fields → on_read (after_line progress) (line_after progress.machine.profile (length progress.machine.central) b (is_some progress.current) (first ∷ fields)) ≡ Ok new → ReadTo lines (k + 1) new true
  read_fields lines k progress new b first fields h lt e read =
      read_as lines k progress new b (line_after profile (size_of lines) b (is_some progress.current) (get_or lines k [])) h lt (ap has_fields e ∙ (lt-ltb 0 (suc (length fields)) (omega arith))) refl
      (ap (on_read (after_line progress)) (line_here lines k progress b (get_or lines k []) (first ∷ fields) h e) ∙ read)

  flaw_of : {A : Type 0} (use_of : Line → A) (r : Result Line Flaw) (flaw : Flaw) → on_read use_of r ≡ Err flaw → r ≡ Err flaw
  flaw_of use_of r flaw e = grind arith

  -- a faulty line is the first one
  pub read_flaw : (lines : List (List (List ℕ))) (k : ℕ) (progress : Progress) (b : Bool) (first : List ℕ) (fields : List (List ℕ)) (flaw : Flaw) → ReadTo lines k progress b → k < length lines → get_or lines k [] ≡ first ∷ fields → on_read (after_line progress) (line_after progress.machine.profile (length progress.machine.central) b (is_some progress.current) (first ∷ fields)) ≡ Err flaw → meaning_of_lines profile lines ≡ Err (record { line = k + 1; code = code_of flaw })
  unfolding meaning_of_lines faults_in fault_at
  read_flaw lines k progress b first fields flaw h lt e read =
      let there : line_at profile (size_of lines) lines k ≡ Err flaw = line_is lines k progress b h ∙ flaw_of (after_line progress) _ flaw (ap (on_read (after_line progress)) (line_here lines k progress b (get_or lines k []) (first ∷ fields) h e) ∙ read) in
      let split : length lines ≡ k + (1 + (length lines - k - 1)) = omega (arith, lt) in
      ap (λ (faults : List DeckFault). unless_faulty faults (loaded profile (size_of lines) (parsed_deck profile lines)))
      (ap (λ (n : ℕ). filter_map (fault_at lines) (range_with_len 0 n)) split
      ∙ ap (filter_map (fault_at lines)) (range_append 0 k (1 + (length lines - k - 1)))
      ∙ filter_map-append (fault_at lines) (range_with_len 0 k) (range_with_len (0 + k) (1 + (length lines - k - 1)))
      ∙ ap (λ (faults : List DeckFault). faults ++ filter_map (fault_at lines) (range_with_len (0 + k) (1 + (length lines - k - 1)))) h.faultless
      ∙ ap (λ (i : ℕ). filter_map (fault_at lines) (range_with_len i (1 + (length lines - k - 1)))) (from_zero k)
      ∙ ap (λ (n : ℕ). filter_map (fault_at lines) (range_with_len k n)) (one_first (length lines - k - 1))
      ∙ ap (λ (o : Option DeckFault). cons_option o (filter_map (fault_at lines) (range_with_len (k + 1) (length lines - k - 1)))) (ap (fault_in k) there))

  -- all lines
  pub read_all : (lines : List (List (List ℕ))) (k : ℕ) (progress : Progress) (b : Bool) → ReadTo lines k progress b → k ≡ length lines → meaning_of_lines profile lines ≡ Ok (with_dead_start progress.asks_dead_start (deck_so_far progress))
  unfolding meaning_of_lines faults_in parsed_deck fault_at said_at progress_of
  read_all lines k progress b h e =
      let none : faults_in profile lines ≡ [] = ap (λ (n : ℕ). filter_map (fault_at lines) (range_with_len 0 n)) (sym e) ∙ h.faultless in
      let all : progress ≡ progress_of profile (size_of lines) (parsed_deck profile lines) =
      h.progress_is ∙ ap (λ (n : ℕ). after_lines profile (size_of lines) (filter_map (said_at lines) (range_with_len 0 n))) e ∙ after_lines_is profile (size_of lines) (parsed_deck profile lines) in
      ap (λ (faults : List DeckFault). unless_faulty faults (loaded profile (size_of lines) (parsed_deck profile lines))) none
      ∙ ap (λ (p : Progress). Ok (with_dead_start p.asks_dead_start (deck_so_far p))) (sym all)

  -- no turn is counted yet, and no channel has a history
  pub before_first_turn : (lines : List (List (List ℕ))) (k : ℕ) (progress : Progress) (b : Bool) → ReadTo lines k progress b → IsBeforeFirstTurn progress.machine
  unfolding progress_of
  before_first_turn lines k progress b h =
      let said = filter_map (said_at lines) (range_with_len 0 k) in
      let is : progress ≡ progress_of profile (size_of lines) said = h.progress_is ∙ after_lines_is profile (size_of lines) said in
      record {
        turns = ap (λ (p : Progress). p.machine.turns) is;
        histories = λ c named. ap (λ (p : Progress). history_of c p.machine) is ∙ get_or-replicate channel_count (channel_index c) [] [] (channel_places.place_below c named);
      }
