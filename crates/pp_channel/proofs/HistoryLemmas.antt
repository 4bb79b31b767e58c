-- What the state of a lawful history says of it, and for which events it stays lawful.
use Rattle.std.proofs.Common.{◌≡◌, ℕ, ◌+◌, ◌^◌, ◌<◌, ◌==◌, Bool, true, false, List, [], ◌∷◌, ◌++◌, length, Option, Some, None, refl, sym, ap, ◌∙◌, subst, arith}
use Rattle.std.specs.Prelude.{if◌then◌else◌, is_some, unwrap_or, All}
use Rattle.std.specs.List.{AllByRecursion, last_or}
use Rattle.std.proofs.lemmas.List.{append-nil, length_push}
use Rattle.std.proofs.lemmas.List.Elements.{All-nil, All-cons, All-head, All-tail, All-drop, filter_map-append, recursion_from_All}
use Rattle.std.proofs.lemmas.Bool.{eq-eqb, ne_eqb, eqb-true}
use Rattle.pp_channel.specs.declared.event.Event.{Event}
use Rattle.pp_channel.specs.declared.event.Event.TheVariants.{Activate, Disconnect, Put, Take, Function}
use Rattle.pp_channel.specs.Session.{Session, puts, takes}
use Rattle.pp_channel.specs.History.{Course, events_of, IsLawful, HasTwelveBitWord, HasTwelveBitWords, switches_to, active, last_stretch, full, waiting}
use Rattle.pp_numbers.proofs.LastElements.{last_or-push, after_last-found, after_last-push}
use Rattle.pp_channel.proofs.HistoryWalk.{State, Inactive, Empty, Holding, step, walk, along, walk_course, state_of, state_in}
use Rattle.pp_channel.proofs.CourseLemmas.{after_function, after_activate, after_disconnect, after_put, after_take}

-- an Activate or a Disconnect begins a new stretch, any other event goes on with it
last_stretch-switch : (h : List Event) (e : Event) → is_some (switches_to e) ≡ true → last_stretch (h ++ e ∷ []) ≡ []
last_stretch-switch h e is = after_last-found (λ x. is_some (switches_to x)) h e is

last_stretch-push : (h : List Event) (e : Event) → is_some (switches_to e) ≡ false → last_stretch (h ++ e ∷ []) ≡ last_stretch h ++ e ∷ []
last_stretch-push h e is = after_last-push (λ x. is_some (switches_to x)) h e is

active-push : (h : List Event) (e : Event) (o : Option Bool) → switches_to e ≡ o → active (h ++ e ∷ []) ≡ unwrap_or o (active h)
active-push h e None is = grind (arith, filter_map-append, append-nil)
active-push h e (Some b) is = grind (arith, filter_map-append, last_or-push)

-- what the state says of the history before it
abbrev pub Fits : List Event → State → Type 0
Fits h Inactive = active h ≡ false
Fits h Empty = (active h ≡ true) × (puts (last_stretch h) ≡ takes (last_stretch h))
Fits h (Holding w) = (active h ≡ true) × (puts (last_stretch h) ≡ takes (last_stretch h) ++ w ∷ []) × (last_or None h ≡ Some (Put w))

pub moved : (Q : State → Type 0) (s t : State) → Some s ≡ Some t → Q s → Q t
moved Q s t e q = let same : s ≡ t = cc in subst Q same q

take_at : (h : List Event) (w v : ℕ) (b : Bool) → (v == w) ≡ b → (t : State) → Fits h (Holding w) → (if b then Some Empty else None) ≡ Some t → Fits (h ++ Take v ∷ []) t
take_at h w v true same t f is = moved (Fits (h ++ Take v ∷ [])) Empty t is (active-push h (Take v) None refl ∙ f.0, rw (last_stretch-push h (Take v) refl) (simp (filter_map-append, append-nil) (f.1 ∙ ap (λ x. takes (last_stretch h) ++ x ∷ []) (sym (eqb-true v w same)))))
take_at h w v false same t f is = absurd cc

pub fits_more : (h : List Event) (s : State) (e : Event) (t : State) → Fits h s → step s e ≡ Some t → Fits (h ++ e ∷ []) t
fits_more h Inactive Activate t f is = moved (Fits (h ++ Activate ∷ [])) Empty t is (active-push h Activate (Some true) refl, rw (last_stretch-switch h Activate refl) refl)
fits_more h Inactive (Function w) t f is = moved (Fits (h ++ Function w ∷ [])) Inactive t is (active-push h (Function w) None refl ∙ f)
fits_more h Inactive Disconnect t f is = absurd cc
fits_more h Inactive (Put w) t f is = absurd cc
fits_more h Inactive (Take w) t f is = absurd cc
fits_more h Empty Disconnect t f is = moved (Fits (h ++ Disconnect ∷ [])) Inactive t is (active-push h Disconnect (Some false) refl)
fits_more h Empty (Put w) t f is = moved (Fits (h ++ Put w ∷ [])) (Holding w) t is (active-push h (Put w) None refl ∙ f.0, rw (last_stretch-push h (Put w) refl) (simp (filter_map-append, append-nil) (ap (λ l. l ++ w ∷ []) f.1)), last_or-push None h (Put w))
fits_more h Empty Activate t f is = absurd cc
fits_more h Empty (Take w) t f is = absurd cc
fits_more h Empty (Function w) t f is = absurd cc
fits_more h (Holding w) Disconnect t f is = moved (Fits (h ++ Disconnect ∷ [])) Inactive t is (active-push h Disconnect (Some false) refl)
fits_more h (Holding w) (Take v) t f is = take_at h w v (v == w) refl t f is
fits_more h (Holding w) Activate t f is = absurd cc
fits_more h (Holding w) (Put v) t f is = absurd cc
fits_more h (Holding w) (Function v) t f is = absurd cc

-- nothing happened: the course without a session
pub lawful_empty : IsLawful []
lawful_empty = (record { first_stretch = []; whole_sessions = []; open_session = None }, refl)

-- each lawful history has a state, which fits it
pub state_at : (h : List Event) → IsLawful h → (s : State) × (walk (Some Inactive) h ≡ Some s) × Fits h s
state_at h l =
    let all : walk (Some Inactive) h ≡ Some (state_of l.0.open_session) = ap (λ g. walk (Some Inactive) g) (sym l.1) ∙ walk_course l.0 in
    (state_of l.0.open_session, all, along Fits fits_more [] Inactive refl h (state_of l.0.open_session) all)

-- what the flags are in a state
abbrev pub is_active : State → Bool
is_active Inactive = false
is_active _ = true

abbrev pub held_word : State → Option ℕ
held_word (Holding w) = Some w
held_word _ = None

pub active_at : (h : List Event) (s : State) → Fits h s → active h ≡ is_active s
active_at h Inactive f = f
active_at h Empty f = f.0
active_at h (Holding w) f = f.0

pub full_at : (h : List Event) (s : State) → Fits h s → full h ≡ is_some (held_word s)
full_at h Inactive f = rw f refl
full_at h Empty f = rw (f.0, f.1) (ne_eqb (length (takes (last_stretch h))) (length (takes (last_stretch h)) + 1) (λ e. omega arith))
full_at h (Holding w) f = rw (f.0, f.1) (eq-eqb (length (takes (last_stretch h) ++ w ∷ [])) (length (takes (last_stretch h)) + 1) (length_push (takes (last_stretch h)) w))

pub waiting_at : (h : List Event) (s : State) → Fits h s → waiting h ≡ held_word s
waiting_at h Inactive f = rw (full_at h Inactive f) refl
waiting_at h Empty f = rw (full_at h Empty f) refl
waiting_at h (Holding w) f = rw (full_at h (Holding w) f, f.1) (last_or-push None (takes (last_stretch h)) w)

-- an event that a state allows keeps a history lawful
lone_is : (s : Session) (o : Option ℕ) → s.lone ≡ o → s ≡ record { passed = s.passed; lone = o }
lone_is s o e = ap (λ l. record { passed = s.passed; lone = l }) e

may_take : (c : Course) (s : Session) (w v : ℕ) (t : State) → c.open_session ≡ Some s → s.lone ≡ Some w → (b : Bool) → (v == w) ≡ b → (if b then Some Empty else None) ≡ Some t → IsLawful (events_of c ++ Take v ∷ [])
may_take c s w v t is lone true same e =
    let l = after_take c s.passed v (is ∙ ap (λ x. Some x) (lone_is s (Some v) (lone ∙ ap (λ x. Some x) (sym (eqb-true v w same))))) in
    (l.0, l.1)
may_take c s w v t is lone false same e = absurd cc

may_within : (c : Course) (s : Session) (o : Option ℕ) (e : Event) (t : State) → c.open_session ≡ Some s → s.lone ≡ o → step (state_in o) e ≡ Some t → IsLawful (events_of c ++ e ∷ [])
may_within c s o Disconnect t is lone on = let l = after_disconnect c s is in (l.0, l.1)
may_within c s None (Put w) t is lone on = let l = after_put c s.passed w (is ∙ ap (λ x. Some x) (lone_is s None lone)) in (l.0, l.1)
may_within c s (Some w) (Take v) t is lone on = may_take c s w v t is lone (v == w) refl on
may_within c s None Activate t is lone on = absurd cc
may_within c s None (Take v) t is lone on = absurd cc
may_within c s None (Function v) t is lone on = absurd cc
may_within c s (Some w) Activate t is lone on = absurd cc
may_within c s (Some w) (Put v) t is lone on = absurd cc
may_within c s (Some w) (Function v) t is lone on = absurd cc

may_after : (c : Course) (o : Option Session) (e : Event) (t : State) → c.open_session ≡ o → step (state_of o) e ≡ Some t → IsLawful (events_of c ++ e ∷ [])
may_after c None Activate t is on = let l = after_activate c is in (l.0, l.1)
may_after c None (Function w) t is on = let l = after_function c w is in (l.0, l.1)
may_after c None Disconnect t is on = absurd cc
may_after c None (Put w) t is on = absurd cc
may_after c None (Take w) t is on = absurd cc
may_after c (Some s) e t is on = may_within c s s.lone e t is refl on

pub lawful_more : (h : List Event) (l : IsLawful h) (e : Event) (t : State) → step (state_of l.0.open_session) e ≡ Some t → IsLawful (h ++ e ∷ [])
lawful_more h l e t on =
    let P : List Event → Type 0 = λ g. IsLawful (g ++ e ∷ []) in
    subst P l.1 (may_after l.0 l.0.open_session e t refl on)

pub lawful_next : (h : List Event) (l : IsLawful h) (e : Event) (t : State) → step (state_at h l).0 e ≡ Some t → IsLawful (h ++ e ∷ [])
unfolding state_at
lawful_next h l e t on = lawful_more h l e t on

-- the waiting word of a history whose words have 12 bits has 12 bits
puts_small : (h : List Event) → HasTwelveBitWords h → All (λ w. w < 2 ^ 12) (puts h)
puts_small [] l = All-nil (λ w. w < 2 ^ 12)
puts_small (Put w ∷ h) l = All-cons (λ v. v < 2 ^ 12) w (puts h) (All-head HasTwelveBitWord (Put w) h l) (puts_small h (All-tail HasTwelveBitWord (Put w) h l))
puts_small (Activate ∷ h) l = puts_small h (All-tail HasTwelveBitWord Activate h l)
puts_small (Disconnect ∷ h) l = puts_small h (All-tail HasTwelveBitWord Disconnect h l)
puts_small (Take w ∷ h) l = puts_small h (All-tail HasTwelveBitWord (Take w) h l)
puts_small (Function w ∷ h) l = puts_small h (All-tail HasTwelveBitWord (Function w) h l)

last_small : (o : Option ℕ) (ws : List ℕ) → unwrap_or o 0 < 2 ^ 12 → AllByRecursion (λ w. w < 2 ^ 12) ws → unwrap_or (last_or o ws) 0 < 2 ^ 12
last_small o [] low all = low
last_small o (w ∷ ws) low all = last_small (Some w) ws all.0 all.1

small_where : (b : Bool) (o : Option ℕ) → unwrap_or o 0 < 2 ^ 12 → unwrap_or (if b then o else None) 0 < 2 ^ 12
small_where true o low = low
small_where false o low = omega arith

pub waiting_small : (h : List Event) → HasTwelveBitWords h → unwrap_or (waiting h) 0 < 2 ^ 12
waiting_small h bits =
    let stretch : HasTwelveBitWords (last_stretch h) = All-drop HasTwelveBitWord _ h bits in
    small_where (full h) (last_or None (puts (last_stretch h))) (last_small None (puts (last_stretch h)) (omega arith) (recursion_from_All (λ w. w < 2 ^ 12) (puts (last_stretch h)) (puts_small (last_stretch h) stretch)))
