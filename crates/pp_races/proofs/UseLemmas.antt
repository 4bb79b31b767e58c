-- The bits of processors, and the central words that they use.
use Rattle.std.proofs.Common.{◌≡◌, ℕ, ◌*◌, ◌%◌, ◌^◌, ◌<◌, Bool, true, IsTrue, List, length, get_or, slice_set, Option, refl, sym, ap, ◌∙◌, inl, inr, arith}
use Rattle.std.specs.Prelude.{◌==◌, ◌&&◌, ◌||◌, nat_eq, bit_or, replicate}
use Rattle.std.specs.Int.{bit_at, w32}
use Rattle.std.proofs.Math.Bool.{or-false}
use Rattle.std.proofs.lemmas.Bool.{cases_eq, eq-eqb, ne_eqb, or_right}
use Rattle.std.proofs.lemmas.List.{get_or-replicate, get_or-set_other, get_or-set_same, length-replicate}
use Rattle.std.proofs.lemmas.Nat.Bits.{bit_at_set_same, bit_at_set_other, bit_at-zero}
use Rattle.pp_channel.specs.declared.{chan_op.ChanOp.ChanOp, event.Event.Event}
use Rattle.pp_machine.specs.MachineState.{MachineState}
use Rattle.pp_processor.specs.declared.need.Need.{Need}
use Rattle.pp_processor.specs.declared.need.Need.TheVariants.{Channel}
use Rattle.pp_numbers.specs.PpNo.{names_processor, processor_index, processor_places}
use Rattle.pp_races.specs.Tables.{AreUses, Looks, has_bit, unused}
use Rattle.pp_races.specs.Watch.{Watch, asked, unwatched, watched_need}
use Rattle.pp_races.specs.WatchTables.{AreKept}
use Rattle.pp_races.specs.declared.{cursor.Cursor.Cursor, finding.Finding.Finding, missed.Missed.Missed, word_use.WordUse.WordUse}

pub bit_set : (mask n place : ℕ) → IsTrue (names_processor n) → place ≡ processor_index n → (q : ℕ) → IsTrue (names_processor q)
    → has_bit (bit_or mask (1 * 2 ^ place % 2 ^ 32)) q ≡ (has_bit mask q || q == n)
bit_set mask n place n_named place_is q q_named =
    let low : processor_index n < 20 = processor_places.place_below n n_named in
    let within : place < 32 = omega arith in
    elim (cases_eq q n) [
      | inl same ↦
          let here : processor_index q ≡ place = ap processor_index same ∙ sym place_is in
          ap (λ k. nat_eq (bit_at (bit_or mask (1 * 2 ^ place % 2 ^ 32)) k) 1) here
          ∙ ap (λ b. nat_eq b 1) (bit_at_set_same w32 mask place within)
          ∙ sym (or_right (has_bit mask q) true refl) ∙ ap (λ t. has_bit mask q || t) (sym (eq-eqb q n same))
      | inr other ↦
          let apart : processor_index q ≡ place → ⊥ = λ is. other (processor_places.one_place n q n_named (is ∙ place_is)) in
          ap (λ b. nat_eq b 1) (bit_at_set_other w32 mask place within (processor_index q) apart)
          ∙ sym (or-false (has_bit mask q)) ∙ ap (λ t. has_bit mask q || t) (sym (ne_eqb q n other))
    ]

pub replicate_unused : (table : List WordUse) (n : ℕ) (use_of : WordUse) → use_of ≡ unused → table ≡ replicate n use_of → AreUses unwatched table
replicate_unused table n use_of is all a low = grind (arith, length-replicate, get_or-replicate, bit_at-zero)

pub same_asked : (n c : ℕ) (op : ChanOp) (o : Option Event) (m : MachineState) (w : Watch) → ((asked n c op o m w).used ≡ w.used) × ((asked n c op o m w).wrote ≡ w.wrote)
same_asked n c op k m w = grind arith

-- after a step that asks no channel
pub uses_kept : (x : Need) (n : ℕ) (m : MachineState) (events : List (List Missed)) (cursors : List Cursor) (looks : List Looks) (uses new : List WordUse) (found : List Finding) (words : ℕ) (w : Watch) → ((c : ℕ) (op : ChanOp) → x ≡ Channel c op → ⊥)
    → length new ≡ length uses → AreUses (watched_need x n m w) new
    → AreKept events cursors looks uses found words w → AreKept events cursors looks new found words (watched_need x n m w)
uses_kept x n m events cursors looks uses new found words w off long used are = grind arith

-- a word's bits after a step of processor n that uses it
pub bits_marked : (of : WordUse → ℕ) (was : ℕ → ℕ → Bool) (table : List WordUse) (place a n : ℕ) (next : WordUse) → place ≡ a → place < length table
    → ((b : ℕ) → b < length table → (q : ℕ) → IsTrue (names_processor q) → has_bit (of (get_or table b unused)) q ≡ was b q)
    → ((q : ℕ) → IsTrue (names_processor q) → has_bit (of next) q ≡ (has_bit (of (get_or table place unused)) q || q == n))
    → (b : ℕ) → b < length table → (q : ℕ) → IsTrue (names_processor q) → has_bit (of (get_or (slice_set table place next) b unused)) q ≡ (was b q || (b == a && q == n))
bits_marked of was table place a n next is within were more b low q named = grind (arith, cases_eq, slice_set, get_or-set_same, eq-eqb, get_or-set_other, or-false, ne_eqb)

-- a word's writers, after a step that reads a word
pub writers_kept : (table : List WordUse) (place : ℕ) (next : WordUse) → place < length table → next.writers ≡ (get_or table place unused).writers
    → (b : ℕ) → (get_or (slice_set table place next) b unused).writers ≡ (get_or table b unused).writers
writers_kept table place next within is b = grind (arith, cases_eq, slice_set, get_or-set_same, get_or-set_other)
