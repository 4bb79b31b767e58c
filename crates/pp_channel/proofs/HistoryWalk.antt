-- A lawful history event by event: the state after each. The definitions in specs/ know no state: it
-- is only the way by which their laws are proved.
use Rattle.std.proofs.Common.{◌≡◌, ℕ, ◌==◌, List, [], ◌∷◌, ◌++◌, map, Option, Some, None, refl, ap, ◌∙◌, subst, append_assoc, arith}
use Rattle.std.specs.Prelude.{if◌then◌else◌}
use Rattle.std.specs.Option.{option_and_then, option_to_list}
use Rattle.std.specs.List.{flat_map}
use Rattle.std.proofs.lemmas.List.{append-nil}
use Rattle.std.proofs.lemmas.Bool.{eq-eqb}
use Rattle.pp_channel.specs.declared.event.Event.{Event}
use Rattle.pp_channel.specs.declared.event.Event.TheVariants.{Activate, Disconnect, Put, Take, Function}
use Rattle.pp_channel.specs.Session.{Session, body}
use Rattle.pp_channel.specs.History.{idle_stretch, whole_session, Course, events_of}

-- inactive, active and empty, active and full
pub data State : Type 0 where
  Inactive : State
  Empty : State
  Holding : ℕ → State

abbrev pub step : State → Event → Option State
step Inactive Activate = Some Empty
step Inactive (Function w) = Some Inactive
step Inactive _ = None
step Empty Disconnect = Some Inactive
step Empty (Put w) = Some (Holding w)
step Empty _ = None
step (Holding w) Disconnect = Some Inactive
step (Holding w) (Take v) = if v == w then Some Empty else None
step (Holding w) _ = None

abbrev pub walk : Option State → List Event → Option State
walk s [] = s
walk s (e ∷ h) = walk (option_and_then (λ t. step t e) s) h

pub walk_none : (h : List Event) → walk None h ≡ None
walk_none [] = refl
walk_none (e ∷ h) = walk_none h

pub walk-append : (s : Option State) (xs ys : List Event) → walk s (xs ++ ys) ≡ walk (walk s xs) ys
walk-append s [] ys = refl
walk-append s (x ∷ xs) ys = walk-append (option_and_then (λ t. step t x) s) xs ys

-- what holds at the start and is kept by each step holds along the way
pub along : (Q : List Event → State → Type 0)
    → ((h : List Event) (s : State) (e : Event) (t : State) → Q h s → step s e ≡ Some t → Q (h ++ e ∷ []) t)
    → (p : List Event) (s : State) → Q p s → (xs : List Event) (t : State) → walk (Some s) xs ≡ Some t → Q (p ++ xs) t
along Q keeps p s q [] t e = grind (arith, append-nil)
along Q keeps p s q (x ∷ xs) t e = along_from (step s x) refl e (λ u r f. along Q keeps (p ++ x ∷ []) u r xs t f)
  where
    along_from : (o : Option State) → step s x ≡ o → walk o xs ≡ Some t
        → ((u : State) → Q (p ++ x ∷ []) u → walk (Some u) xs ≡ Some t → Q ((p ++ x ∷ []) ++ xs) t)
        → Q (p ++ x ∷ xs) t
    along_from None is e more = absurd (let n = walk_none xs in cc)
    along_from (Some u) is e more =
        let R : List Event → Type 0 = λ l. Q l t in
        subst R (append_assoc p (x ∷ []) xs) (more u (keeps p s x u q is) e)

pub walk_idle : (ws : List ℕ) → walk (Some Inactive) (idle_stretch ws) ≡ Some Inactive
walk_idle [] = refl
walk_idle (w ∷ ws) = walk_idle ws

pub step_take : (w : ℕ) → step (Holding w) (Take w) ≡ Some Empty
step_take w = rw (eq-eqb w w refl) refl

walk_pairs : (ws : List ℕ) → walk (Some Empty) (flat_map (λ w. Put w ∷ Take w ∷ []) ws) ≡ Some Empty
walk_pairs [] = refl
walk_pairs (w ∷ ws) = ap (λ o. walk o (flat_map (λ v. Put v ∷ Take v ∷ []) ws)) (step_take w) ∙ walk_pairs ws

abbrev pub state_in : Option ℕ → State
state_in None = Empty
state_in (Some w) = Holding w

walk_lone : (o : Option ℕ) → walk (Some Empty) (map (λ w. Put w) (option_to_list o)) ≡ Some (state_in o)
walk_lone None = refl
walk_lone (Some w) = refl

pub walk_body : (s : Session) → walk (Some Inactive) (body s) ≡ Some (state_in s.lone)
walk_body s = rw (walk-append, walk_pairs) (walk_lone s.lone)

walk_end : (o : Option ℕ) → step (state_in o) Disconnect ≡ Some Inactive
walk_end None = refl
walk_end (Some w) = refl

walk_whole : (p : Session × List ℕ) → walk (Some Inactive) (whole_session p) ≡ Some Inactive
walk_whole p = rw (walk-append (Some Inactive) (body p.0), walk_body) (ap (λ o. walk o (idle_stretch p.1)) (walk_end p.0.lone) ∙ walk_idle p.1)

walk_wholes : (ps : List (Session × List ℕ)) → walk (Some Inactive) (flat_map whole_session ps) ≡ Some Inactive
walk_wholes [] = refl
walk_wholes (p ∷ ps) = rw (walk-append (Some Inactive) (whole_session p), walk_whole) (walk_wholes ps)

abbrev pub state_of : Option Session → State
state_of None = Inactive
state_of (Some s) = state_in s.lone

walk_last : (o : Option Session) → walk (Some Inactive) (flat_map body (option_to_list o)) ≡ Some (state_of o)
walk_last None = refl
walk_last (Some s) = rw append-nil (walk_body s)

pub walk_course : (c : Course) → walk (Some Inactive) (events_of c) ≡ Some (state_of c.open_session)
walk_course c = rw (walk-append (Some Inactive) (idle_stretch c.first_stretch ++ flat_map whole_session c.whole_sessions), walk-append (Some Inactive) (idle_stretch c.first_stretch), walk_idle, walk_wholes) (walk_last c.open_session)
