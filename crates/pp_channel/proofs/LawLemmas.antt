-- Lawful histories keep the law of the words that pass.
use Rattle.std.proofs.Common.{◌≡◌, ◌≢◌, ℕ, ◌==◌, Bool, true, false, List, [], ◌∷◌, ◌++◌, length, Option, Some, None, refl, sym, ap, ◌∙◌, subst, arith}
use Rattle.std.specs.Prelude.{if◌then◌else◌}
use Rattle.std.specs.List.{AllByRecursion, last_or}
use Rattle.std.proofs.lemmas.List.{append-nil, length_push}
use Rattle.std.proofs.lemmas.List.Elements.{filter_map-append, recursion_from_All}
use Rattle.std.proofs.lemmas.Bool.{eqb-true}
use Rattle.pp_channel.specs.declared.event.Event.{Event}
use Rattle.pp_channel.specs.declared.event.Event.TheVariants.{Activate, Disconnect, Put, Take, Function}
use Rattle.pp_channel.specs.Session.{puts, takes}
use Rattle.pp_channel.specs.History.{IsLawful, active}
use Rattle.pp_channel.specs.Law.{IsSession, PassesInOrder, IsUntaken, IsFullWith, KeepsLaw}
use Rattle.pp_channel.proofs.HistoryWalk.{State, Inactive, Empty, Holding, step, walk, along, walk-append, walk_none}
use Rattle.pp_channel.proofs.HistoryLemmas.{Fits, fits_more, state_at, moved, held_word, full_at, waiting_at}
use Rattle.pp_numbers.proofs.LastElements.{last_or-push}

-- what the state says of the words since the Activate
abbrev Words : List Event → State → Type 0
Words p Inactive = ⊥
Words p Empty = takes p ≡ puts p
Words p (Holding w) = IsUntaken p w

take_within : (p : List Event) (w v : ℕ) (b : Bool) → (v == w) ≡ b → (t : State) → Words p (Holding w) → (if b then Some Empty else None) ≡ Some t → Words (p ++ Take v ∷ []) t
take_within p w v true same t q is = grind (arith, moved, filter_map-append, append-nil, eqb-true)
take_within p w v false same t q is = absurd cc

words_more : (p : List Event) (s : State) (e : Event) (t : State) → Words p s → e ≢ Disconnect → step s e ≡ Some t → Words (p ++ e ∷ []) t
words_more p Inactive e t q go is = absurd q
words_more p Empty (Put w) t q go is = moved (Words (p ++ Put w ∷ [])) (Holding w) t is (simp (filter_map-append, append-nil) (ap (λ l. l ++ w ∷ []) (sym q)))
words_more p (Holding w) (Take v) t q go is = take_within p w v (v == w) refl t q is
words_more p Empty Disconnect t q go is = absurd (go refl)
words_more p Empty Activate t q go is = absurd cc
words_more p Empty (Take v) t q go is = absurd cc
words_more p Empty (Function v) t q go is = absurd cc
words_more p (Holding w) Disconnect t q go is = absurd (go refl)
words_more p (Holding w) Activate t q go is = absurd cc
words_more p (Holding w) (Put v) t q go is = absurd cc
words_more p (Holding w) (Function v) t q go is = absurd cc

split_all : {X : Type 0} (P : X → Type 0) (xs : List X) (y : X) → AllByRecursion P (xs ++ y ∷ []) → AllByRecursion P xs × P y
split_all P [] y a = (tt, a.0)
split_all P (x ∷ xs) y a = let r = split_all P xs y a.1 in ((a.0, r.0), r.1)

abbrev Unbroken : List Event → Type 0
Unbroken p = AllByRecursion (λ e. e ≢ Disconnect) p

words_along : (inside : List Event) (t : State) → walk (Some Empty) inside ≡ Some t → Unbroken inside → Words inside t
words_along inside t ends =
    let Q : List Event → State → Type 0 = λ p s. Unbroken p → Words p s in
    along Q (λ p s e u q is n. let m = split_all (λ x. x ≢ Disconnect) p e n in words_more p s e u (q m.0) m.1 is) [] Empty (λ n. refl) inside t ends

words_pass : (inside : List Event) (t : State) → Words inside t → PassesInOrder inside
words_pass inside Inactive q = absurd q
words_pass inside Empty q = record { in_order = ([], append-nil (takes inside) ∙ q); all_but_one = omega (arith, ap length q) }
words_pass inside (Holding w) q = record { in_order = (w ∷ [], sym q); all_but_one = omega (arith, ap length q, length_push (takes inside) w) }

-- a word that is not taken is held
held_is : (inside : List Event) (t : State) (w : ℕ) → Words inside t → IsUntaken inside w → held_word t ≡ Some w
held_is inside Inactive w q u = absurd q
held_is inside Empty w q u = absurd (omega (arith, ap length q, ap length u, length_push (takes inside) w))
held_is inside (Holding v) w q u =
    sym (last_or-push None (takes inside) v) ∙ (ap (last_or None) (sym q ∙ u) ∙ last_or-push None (takes inside) w)

full_with_held : (h : List Event) (t : State) (w : ℕ) → Fits h t → held_word t ≡ Some w → IsFullWith h w
full_with_held h Inactive w f is = absurd cc
full_with_held h Empty w f is = absurd cc
full_with_held h (Holding v) w f is =
    let same : v ≡ w = cc in
    let P : ℕ → Type 0 = λ x. IsFullWith h x in
    subst P same (record { is_full = full_at h (Holding v) f; waits = waiting_at h (Holding v) f; put_last = f.2 })

-- the state at a cut
cut_state_by : (o : Option State) (ys : List Event) (t : State) → walk o ys ≡ Some t → (u : State) × (o ≡ Some u) × (walk (Some u) ys ≡ Some t)
cut_state_by None ys t e = absurd (let n = walk_none ys in cc)
cut_state_by (Some u) ys t e = (u, refl, e)

pub cut_state : (s : State) (xs ys : List Event) (t : State) → walk (Some s) (xs ++ ys) ≡ Some t → (u : State) × (walk (Some s) xs ≡ Some u) × (walk (Some u) ys ≡ Some t)
cut_state s xs ys t e = cut_state_by (walk (Some s) xs) ys t (sym (walk-append (Some s) xs ys) ∙ e)

opened : (u : State) (inside : List Event) (t : State) → walk (Some u) (Activate ∷ inside) ≡ Some t → walk (Some Empty) inside ≡ Some t
opened Inactive inside t e = e
opened Empty inside t e = absurd (let n = walk_none inside in cc)
opened (Holding w) inside t e = absurd (let n = walk_none inside in cc)

-- the state at the end of a session, and what it says of the session and of the history
session_end : (h : List Event) → IsLawful h → (before inside after : List Event) → IsSession h before inside after → (t : State) × Fits (before ++ Activate ∷ inside) t × Words inside t
session_end h l before inside after session =
    let s = state_at h l in
    let all : walk (Some Inactive) ((before ++ Activate ∷ inside) ++ after) ≡ Some s.0 = ap (λ g. walk (Some Inactive) g) (sym session.place) ∙ s.1 in
    let a = cut_state Inactive (before ++ Activate ∷ inside) after s.0 all in
    let b = cut_state Inactive before (Activate ∷ inside) a.0 a.1 in
    (a.0, along Fits fits_more [] Inactive refl (before ++ Activate ∷ inside) a.0 a.1, words_along inside a.0 (opened b.0 inside a.0 b.2) (recursion_from_All (λ e. e ≢ Disconnect) inside session.unbroken))

untaken_waits : (h : List Event) → IsLawful h → (before inside after : List Event) (w : ℕ) → IsSession h before inside after → IsUntaken inside w → IsFullWith (before ++ Activate ∷ inside) w
untaken_waits h l before inside after w session u =
    let t = session_end h l before inside after session in
    full_with_held (before ++ Activate ∷ inside) t.0 w t.1 (held_is inside t.0 w t.2 u)

untaken_kept : (h : List Event) → IsLawful h → (before inside : List Event) (w : ℕ) → IsSession h before inside [] → IsUntaken inside w → IsFullWith h w
untaken_kept h l before inside w session u =
    let P : List Event → Type 0 = λ g. IsFullWith g w in
    let whole : before ++ Activate ∷ inside ≡ h = sym (append-nil (before ++ Activate ∷ inside)) ∙ sym session.place in
    subst P whole (untaken_waits h l before inside [] w session u)

put_inside : (before : List Event) (u : State) (w : ℕ) (later : List Event) (t : State) → Fits before u → walk (Some u) (Put w ∷ later) ≡ Some t → active before ≡ true
put_inside before Inactive w later t f e = absurd (let n = walk_none later in cc)
put_inside before Empty w later t f e = f.0
put_inside before (Holding v) w later t f e = f.0

take_inside : (before : List Event) (u : State) (w : ℕ) (later : List Event) (t : State) → Fits before u → walk (Some u) (Take w ∷ later) ≡ Some t → active before ≡ true
take_inside before Inactive w later t f e = absurd (let n = walk_none later in cc)
take_inside before Empty w later t f e = f.0
take_inside before (Holding v) w later t f e = f.0

pub law_of_lawful : (h : List Event) → IsLawful h → KeepsLaw h
law_of_lawful h l =
    let s = state_at h l in
    record {
      in_order = λ before inside after session. let t = session_end h l before inside after session in words_pass inside t.0 t.2;
      lost = λ before inside later w session u. untaken_waits h l before inside (Disconnect ∷ later) w session u;
      kept = untaken_kept h l;
      no_put_outside = λ before later w e.
          let a = cut_state Inactive before (Put w ∷ later) s.0 (ap (λ g. walk (Some Inactive) g) (sym e) ∙ s.1) in
          put_inside before a.0 w later s.0 (along Fits fits_more [] Inactive refl before a.0 a.1) a.2;
      no_take_outside = λ before later w e.
          let a = cut_state Inactive before (Take w ∷ later) s.0 (ap (λ g. walk (Some Inactive) g) (sym e) ∙ s.1) in
          take_inside before a.0 w later s.0 (along Fits fits_more [] Inactive refl before a.0 a.1) a.2;
    }
