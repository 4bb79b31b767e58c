-- Histories are filled from a log that tells them whole.
use Rattle.std.proofs.Common.{◌≡◌, ℕ, ◌+◌, ◌<◌, ◌⊎◌, inl, inr, ⊎_elim, List, [], ◌∷◌, length, get_or, set, refl, sym, ap, ◌∙◌, arith}
use mathlib.Core.Logic.{dite}
use native.Mathlib.Decide.{dec_lt}
use Rattle.std.specs.Prelude.{All}
use Rattle.std.specs.List.{fold}
use Rattle.std.proofs.lemmas.Bool.{cases_eq}
use Rattle.std.proofs.lemmas.List.{length-set, get_or_past, get_or-set_same, get_or-set_other, ext_get_or, same_lists}
use Rattle.std.proofs.lemmas.List.Elements.{All-head, All-tail}
use Rattle.std.proofs.lemmas.List.Sums.{sum_by-cons}
use Rattle.std.proofs.lemmas.Option.{slice_get_within, get_or_from_slice_get}
use Rattle.pp_line.specs.Types.{Entry, Event, Seen}
use Rattle.pp_numbers.specs.ChannelNo.{channel_count, channel_index, channel_number, channel_places}
use Rattle.pp_line.specs.Merge.{IsTrueAt, IsTrueOf, times_logged, Merges, no_opening, IsRecordedBy, with_recorded, with_entry}
use Rattle.pp_channel.specs.History.{history_on}
use Rattle.pp_line.proofs.MergeLemmas.{told_by, told_not}

length-told : (hs : List (List Event)) (place p n : ℕ) (what : Seen) → length (get_or (with_recorded hs place n what) p []) ≡ length (get_or hs p [])
length-told hs place p n what = grind (arith, get_or-set_same, length-set, get_or_past, get_or-set_other, cases_eq)

-- What one entry of channel d does to event k of channel c: where it tells that event, the event stands there afterwards,
-- and where the event stood there, it still does.
told_at : (c k d n : ℕ) (histories hs : List (List Event)) (what : Seen) (x : Event) → length (history_on d hs) ≡ length (history_on d histories) → IsTrueAt (history_on d histories) n what
    → (0 < told_by c k (record { channel = d; number = n; what = what })) ⊎ (get_or (history_on c hs) k x ≡ get_or (history_on c histories) k x)
    → get_or (history_on c (with_recorded hs (channel_index d) n what)) k x ≡ get_or (history_on c histories) k x
told_at c k d n histories hs what x long there p = grind (arith, ⊎_elim, slice_get_within, get_or_past, set, get_or-set_same, get_or_from_slice_get, get_or-set_other, told_by, told_not, cases_eq)

length-filled : (log : List Entry) (hs : List (List Event)) (p : ℕ) → length (get_or (fold with_entry hs log) p []) ≡ length (get_or hs p [])
length-filled [] hs p = refl
length-filled (entry ∷ log) hs p = length-filled log (with_entry hs entry) p ∙ length-told hs (channel_index entry.channel) p entry.number entry.what

pub count-filled : (log : List Entry) (hs : List (List Event)) → length (fold with_entry hs log) ≡ length hs
count-filled [] hs = refl
count-filled (entry ∷ log) hs = grind (arith, count-filled log (with_entry hs entry), length-set, set)

module _ (histories : List (List Event)) (c : ℕ) where
  filled_at : (log : List Entry) (hs : List (List Event)) (k : ℕ) (x : Event) → ((p : ℕ) → length (get_or hs p []) ≡ length (get_or histories p [])) → All (IsTrueOf histories) log
      → (0 < times_logged c k log) ⊎ (get_or (history_on c hs) k x ≡ get_or (history_on c histories) k x) → get_or (history_on c (fold with_entry hs log)) k x ≡ get_or (history_on c histories) k x
  filled_at [] hs k x long all p = ⊎_elim (λ (told : 0 < 0). absurd (omega arith)) (λ is. is) p
  filled_at (entry ∷ log) hs k x long all p =
      let d : ℕ = entry.channel in
      let here = told_at c k d entry.number histories hs entry.what x (long (channel_index d)) (All-head (IsTrueOf histories) entry log all) in
      let sum = sum_by-cons (told_by c k) entry log in
      filled_at log (with_entry hs entry) k x (λ q. length-told hs (channel_index d) q entry.number entry.what ∙ long q) (All-tail (IsTrueOf histories) entry log all) (⊎_elim
      (λ (told : 0 < times_logged c k (entry ∷ log)). dite (dec_lt 0 (told_by c k entry)) (λ now. inr (here (inl now))) (λ no. inl (omega (arith, told, no, sum))))
      (λ is. inr (here (inr is)))
      p)

  history_filled : (log : List Entry) (hs : List (List Event)) → Merges no_opening histories log → ((p : ℕ) → length (get_or hs p []) ≡ length (get_or histories p []))
      → history_on c (fold with_entry hs log) ≡ history_on c histories
  history_filled log hs m long =
      same_lists (history_on c (fold with_entry hs log)) (history_on c histories) (length-filled log hs (channel_index c) ∙ long (channel_index c)) (λ k x within.
      let l = length-filled log hs (channel_index c) in
      let s = long (channel_index c) in
      let once = m.once c k (omega arith) (omega (arith, l, s, within)) in
      filled_at log hs k x long m.entries_true (inl (omega (arith, once))))

-- as many histories as there are, each as long
room_for : (histories hs : List (List Event)) (seen : List ℕ) (log : List Entry) → IsRecordedBy log seen histories → length hs ≡ channel_count → ((p : ℕ) → p < channel_count → length (get_or hs p []) ≡ get_or seen p 0)
    → (p : ℕ) → length (get_or hs p []) ≡ length (get_or histories p [])
room_for histories hs seen log told each room p = dite (dec_lt p channel_count)
    (λ below. room p below ∙ (let is : channel_index (channel_number p) ≡ p = channel_places.place_of_number p below in
    ap (λ i. get_or seen i 0) (sym is) ∙ (told.counted (channel_number p) ∙ ap (λ i. length (get_or histories i [])) is)))
    (λ no. ap length (get_or_past hs p [] (omega (arith, each, no)) ∙ sym (get_or_past histories p [] (omega (arith, told.sound.each_channel, no)))))

pub histories_filled : (histories hs : List (List Event)) (seen : List ℕ) (log : List Entry) → IsRecordedBy log seen histories → length hs ≡ channel_count
    → ((p : ℕ) → p < channel_count → length (get_or hs p []) ≡ get_or seen p 0) → fold with_entry hs log ≡ histories
histories_filled histories hs seen log told each room =
    ext_get_or [] (fold with_entry hs log) histories (count-filled log hs ∙ (each ∙ sym told.sound.each_channel)) (λ p inside.
    let many = count-filled log hs in
    let is : channel_index (channel_number p) ≡ p = channel_places.place_of_number p (omega (arith, inside, many, each)) in
    ap (λ i. get_or (fold with_entry hs log) i []) (sym is) ∙ (history_filled histories (channel_number p) log hs told.merged (room_for histories hs seen log told each room)
    ∙ ap (λ i. get_or histories i []) is))

-- one more place has its element
pub placed_more : {A : Type 0} (d : A) (xs : List A) (n : ℕ) (x : A) (f : ℕ → A) → n < length xs → ((k : ℕ) → k < n → get_or xs k d ≡ f k) → x ≡ f n
    → (k : ℕ) → k < n + 1 → get_or (set xs n x) k d ≡ f k
placed_more d xs n x f within below here k less = grind (arith, get_or-set_same, get_or-set_other, cases_eq)
