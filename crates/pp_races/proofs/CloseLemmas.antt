-- The looks that an event closes.
use Rattle.std.proofs.Common.{◌≡◌, ◌≢◌, ℕ, ◌+◌, ◌<◌, ◌≤◌, IsTrue, List, [], ◌++◌, length, slice_set, refl, sym, ap, ◌∙◌, subst, inl, inr, arith}
use Rattle.std.specs.Prelude.{◌==◌, ◌||◌, is_some, if◌then◌else◌}
use Rattle.std.proofs.lemmas.Bool.{cases_eq, cases_lt}
use Rattle.std.proofs.lemmas.List.{get_or-set_same}
use Rattle.pp_numbers.specs.ChannelNo.{names_channel}
use Rattle.pp_channel.specs.declared.flags.Flags.{Flags}
use Rattle.pp_numbers.specs.PpNo.{names_processor, processor_count, processor_index, processor_number, processor_places}
use Rattle.pp_machine.specs.declared.trace.Trace.{Trace}
use Rattle.pp_races.specs.ByFlags.{at}
use Rattle.pp_races.specs.Tables.{closing_findings, entry_count, entry_place, Looks, looks_after_event, looks_of, no_looks}
use Rattle.pp_races.specs.Watch.{each_below, race_after}
use Rattle.pp_races.specs.declared.finding.Finding.{Finding}
use Rattle.pp_races.proofs.EntryLemmas.{entry_within, set_other}
use Rattle.pp_races.proofs.EndLemmas.{each_more}

-- the looks of the processors at the first places are closed
pub record AreClosedBelow (made : Trace) (after : Flags) (old new : List Looks) (place : ℕ) : Type 0 where
  pub entries : length new ≡ entry_count
  pub below : (q : ℕ) → IsTrue (names_processor q) → processor_index q < place
      → looks_of new q made.channel ≡ looks_after_event made.pp after q old made.channel
  pub above : (q : ℕ) → IsTrue (names_processor q) → place ≤ processor_index q → looks_of new q made.channel ≡ looks_of old q made.channel
  pub elsewhere : (q c : ℕ) → IsTrue (names_processor q) → IsTrue (names_channel c) → c ≢ made.channel → looks_of new q c ≡ looks_of old q c

pub closed_none : (made : Trace) (after : Flags) (old : List Looks) → length old ≡ entry_count → AreClosedBelow made after old old 0
closed_none made after old entries = record {
  entries = entries;
  below = λ q named low. absurd (omega arith);
  above = λ q named low. refl;
  elsewhere = λ q c named is apart. refl;
}

pub closed_more : (made : Trace) (after : Flags) (old now next : List Looks) (place q : ℕ) → IsTrue (names_channel made.channel) → place < processor_count → q ≡ processor_number place
    → AreClosedBelow made after old now place
    → next ≡ slice_set now (entry_place q made.channel) (looks_after_event made.pp after q now made.channel)
    → length next ≡ length now
    → AreClosedBelow made after old next (place + 1)
closed_more made after old now next place q c_named low q_is so_far next_is long =
    record {
      entries = long ∙ so_far.entries;
      below = λ x x_named h. elim (cases_eq x q) [
        | inl same ↦
            subst (λ (k : ℕ). looks_of next k c ≡ looks_after_event made.pp after k old c) (sym same)
            (ap (λ t. looks_of t q c) next_is ∙ get_or-set_same now (entry_place q c) (looks_after_event made.pp after q now c) no_looks within
            ∙ ap (λ (l : Looks). if q == made.pp || is_some (at l after) then no_looks else l) (so_far.above q q_named (omega (arith, index))))
        | inr other ↦ ap (λ t. looks_of t x c) next_is ∙ set_other now q c x c (looks_after_event made.pp after q now c) no_looks x_named q_named c_named c_named (λ is on. other is)
            ∙ so_far.below x x_named (elim (cases_lt (processor_index x) place) [
              | inl below ↦ below
              | inr past ↦ (let same : processor_index x ≡ processor_index q = omega (arith, index) in absurd (other (processor_places.one_place q x q_named same)))
            ])
      ];
      above = λ x x_named h. ap (λ t. looks_of t x c) next_is
          ∙ set_other now q c x c (looks_after_event made.pp after q now c) no_looks x_named q_named c_named c_named (λ is on. (let same : processor_index x ≡ processor_index q = ap processor_index is in omega (arith, index)))
          ∙ so_far.above x x_named (omega arith);
      elsewhere = λ x e x_named e_named apart. ap (λ t. looks_of t x e) next_is
          ∙ set_other now q c x e (looks_after_event made.pp after q now c) no_looks x_named q_named e_named c_named (λ is on. apart on)
          ∙ so_far.elsewhere x e x_named e_named apart;
    }
  where
    c : ℕ
    c = made.channel

    q_named : IsTrue (names_processor q)
    q_named = subst (λ (k : ℕ). IsTrue (names_processor k)) (sym q_is) (processor_places.number_named place low)

    index : processor_index q ≡ place
    index = ap processor_index q_is ∙ processor_places.place_of_number place low

    within : entry_place q c < length now
    within = omega (arith, entry_within q c q_named c_named, so_far.entries)

-- what is found of one more processor, whose looks are still as they were
pub found_more : (made : Trace) (after : Flags) (old now : List Looks) (place q : ℕ) (first found next : List Finding) → place < processor_count → q ≡ processor_number place
    → AreClosedBelow made after old now place
    → found ≡ first ++ each_below place (λ k. closing_findings made after old (processor_number k))
    → next ≡ found ++ closing_findings made after now q
    → next ≡ first ++ each_below (place + 1) (λ k. closing_findings made after old (processor_number k))
found_more made after old now place q first found next low q_is so_far found_is next_is =
    let of : ℕ → List Finding = λ k. closing_findings made after old (processor_number k) in
    let q_named : IsTrue (names_processor q) = subst (λ (k : ℕ). IsTrue (names_processor k)) (sym q_is) (processor_places.number_named place low) in
    let index : processor_index q ≡ place = ap processor_index q_is ∙ processor_places.place_of_number place low in
    let same : closing_findings made after now q ≡ of place =
    ap (λ (l : Looks). if q == made.pp then [] else race_after (at l after) made) (so_far.above q q_named (omega arith))
    ∙ ap (λ k. closing_findings made after old k) q_is in
    each_more of first found next place found_is (next_is ∙ ap (λ x. found ++ x) same)
