-- The entries of the tables: what a new one changes.
use Rattle.std.proofs.Common.{◌≡◌, ℕ, ◌*◌, ◌<◌, IsTrue, List, [], length, slice_set, get_or, sym, ap, ◌∙◌, subst, inl, inr, arith}
use Rattle.std.specs.Prelude.{◌⊎◌}
use Rattle.std.proofs.lemmas.Bool.{cases_eq, eq-eqb, eqb-true}
use Rattle.std.proofs.lemmas.List.{get_or_default, get_or-set_other, get_or-set_same}
use Rattle.pp_numbers.specs.ChannelNo.{channel_count, channel_index, names_channel, channel_places}
use Rattle.pp_numbers.specs.PpNo.{processor_count, processor_index, names_processor, processor_places}
use Rattle.pp_races.specs.Tables.{AreCursors, AreLooks, Looks, cursor_of, entry_place, events_of, looks_of, no_cursor, no_looks}
use Rattle.pp_races.specs.ByFlags.{at}
use Rattle.pp_channel.specs.declared.flags.Flags.{Flags}
use Rattle.pp_races.specs.Cursor.{IsCursor}
use Rattle.pp_races.specs.Watch.{Watch, put}
use Rattle.pp_races.specs.declared.{cursor.Cursor.Cursor, missed.Missed.Missed}

pub entry_within : (q c : ℕ) → IsTrue (names_processor q) → IsTrue (names_channel c) → entry_place q c < processor_count * channel_count
entry_within q c q_named c_named =
    let q_low : processor_index q < 20 = processor_places.place_below q q_named in
    let c_low : channel_index c < 24 = channel_places.place_below c c_named in
    omega arith

-- a place has one processor and one channel
pub one_entry : (x n e c : ℕ) → IsTrue (names_processor x) → IsTrue (names_processor n) → IsTrue (names_channel e) → IsTrue (names_channel c)
    → entry_place x e ≡ entry_place n c → (x ≡ n) × (e ≡ c)
one_entry x n e c x_named n_named e_named c_named same =
    let e_low : channel_index e < 24 = channel_places.place_below e e_named in
    let c_low : channel_index c < 24 = channel_places.place_below c c_named in
    let first : processor_index x ≡ processor_index n = omega arith in
    let second : channel_index e ≡ channel_index c = omega arith in
    (processor_places.one_place n x n_named first, channel_places.one_place c e c_named second)

pub set_other : {X : Type 0} (table : List X) (n c x e : ℕ) (v d : X) → IsTrue (names_processor x) → IsTrue (names_processor n) → IsTrue (names_channel e) → IsTrue (names_channel c)
    → (x ≡ n → e ≡ c → ⊥) → get_or (slice_set table (entry_place n c) v) (entry_place x e) d ≡ get_or table (entry_place x e) d
set_other table n c x e v d x_named n_named e_named c_named apart =
    get_or-set_other table (entry_place n c) (entry_place x e) v d (λ same. (let one = one_entry x n e c x_named n_named e_named c_named same in apart one.0 one.1))

pub here_or_not : (n c x e : ℕ) → ((x ≡ n) × (e ≡ c)) ⊎ (x ≡ n → e ≡ c → ⊥)
here_or_not n c x e = elim (cases_eq x n) [
  | inr other ↦ inr (λ is on. other is)
  | inl same ↦ elim (cases_eq e c) [
    | inl on ↦ inl (same, on)
    | inr off ↦ inr (λ is on. off on)
  ]
]

pub put_here : {X : Type 0} (n c : ℕ) (x : X) (entries : ℕ → ℕ → X) → put n c x entries n c ≡ x
put_here n c x entries = grind (arith, eq-eqb)

pub put_other : {X : Type 0} (n c q e : ℕ) (x : X) (entries : ℕ → ℕ → X) → (q ≡ n → e ≡ c → ⊥) → put n c x entries q e ≡ entries q e
put_other n c q e x entries apart = grind (arith, eqb-true)

-- the events of a channel and the entry of a table, as the code reads them
pub events_at : (events : List (List Missed)) (c place : ℕ) (list : List Missed) → place ≡ channel_index c → place < length events → list ≡ get_or events place list → list ≡ events_of events c
events_at events c place list place_is below list_is = list_is ∙ get_or_default events place list [] below ∙ ap (λ k. get_or events k []) place_is

pub entry_at : {X : Type 0} (table : List X) (n c entry : ℕ) (x d : X) → entry ≡ entry_place n c → entry < length table → x ≡ get_or table entry x → x ≡ get_or table (entry_place n c) d
entry_at table n c entry x d entry_is within x_is = x_is ∙ get_or_default table entry x d within ∙ ap (λ k. get_or table k d) entry_is

-- one cursor put in the place of another
pub cursors_set : (events : List (List Missed)) (w : Watch) (table : List Cursor) (n c : ℕ) (cursor : Cursor) → IsTrue (names_processor n) → IsTrue (names_channel c) → entry_place n c < length table
    → IsCursor (events_of events c) (w.missed n c) cursor
    → ((q e : ℕ) → IsTrue (names_processor q) → IsTrue (names_channel e) → (q ≡ n → e ≡ c → ⊥) → IsCursor (events_of events e) (w.missed q e) (cursor_of table q e))
    → AreCursors events w (slice_set table (entry_place n c) cursor)
cursors_set events w table n c cursor n_named c_named within here others q e q_named e_named =
    let new : List Cursor = slice_set table (entry_place n c) cursor in
    elim (here_or_not n c q e) [
      | inr apart ↦ subst (λ (x : Cursor). IsCursor (events_of events e) (w.missed q e) x) (sym (set_other table n c q e cursor no_cursor q_named n_named e_named c_named apart)) (others q e q_named e_named apart)
      | inl both ↦ subst (λ (x : ℕ). IsCursor (events_of events x) (w.missed q x) (cursor_of new q x)) (sym both.1)
          (subst (λ (x : ℕ). IsCursor (events_of events c) (w.missed x c) (cursor_of new x c)) (sym both.0)
          (subst (λ (x : Cursor). IsCursor (events_of events c) (w.missed n c) x) (sym (get_or-set_same table (entry_place n c) cursor no_cursor within)) here))
    ]

-- one entry of looks put in the place of another
pub looks_set : (w : Watch) (table : List Looks) (n c : ℕ) (new : Looks) → IsTrue (names_processor n) → IsTrue (names_channel c) → entry_place n c < length table
    → ((f : Flags) → at new f ≡ w.looks n c f)
    → ((q e : ℕ) → IsTrue (names_processor q) → IsTrue (names_channel e) → (q ≡ n → e ≡ c → ⊥) → (f : Flags) → at (looks_of table q e) f ≡ w.looks q e f)
    → AreLooks w (slice_set table (entry_place n c) new)
looks_set w table n c new n_named c_named within here others q e q_named e_named f =
    let next : List Looks = slice_set table (entry_place n c) new in
    elim (here_or_not n c q e) [
      | inr apart ↦ ap (λ (l : Looks). at l f) (set_other table n c q e new no_looks q_named n_named e_named c_named apart) ∙ others q e q_named e_named apart f
      | inl both ↦ subst (λ (x : ℕ). at (looks_of next q x) f ≡ w.looks q x f) (sym both.1)
          (subst (λ (x : ℕ). at (looks_of next x c) f ≡ w.looks x c f) (sym both.0)
          (ap (λ (l : Looks). at l f) (get_or-set_same table (entry_place n c) new no_looks within) ∙ here f))
    ]
