-- One more event on a course.
use Rattle.std.proofs.Common.{◌≡◌, ℕ, List, [], ◌∷◌, ◌++◌, Option, Some, None, refl, append_assoc, arith}
use Rattle.std.specs.List.{flat_map}
use Rattle.std.proofs.lemmas.List.{append-nil, map-append}
use Rattle.std.proofs.lemmas.Grind.{flat_map-append}
use Rattle.pp_channel.specs.declared.event.Event.{Event}
use Rattle.pp_channel.specs.declared.event.Event.TheVariants.{Activate, Disconnect, Put, Take, Function}
use Rattle.pp_channel.specs.Session.{Session, body}
use Rattle.pp_channel.specs.History.{idle_stretch, whole_session, Course, events_of}

-- a course with the events h that ends in the session o, or in none
abbrev pub HasCourse : List Event → Option Session → Type 0
HasCourse h o = (c : Course) × (events_of c ≡ h) × (c.open_session ≡ o)

-- an idle stretch and whole sessions
abbrev closed_events : List ℕ → List (Session × List ℕ) → List Event
closed_events ws ps = idle_stretch ws ++ flat_map whole_session ps

regroup : (a b i f j g : List Event) (x y : Event) → j ++ g ≡ i ++ f ++ y ∷ [] → a ++ (b ++ x ∷ j ++ g) ≡ a ++ (b ++ x ∷ i ++ f) ++ y ∷ []
regroup a b i f j g x y e = grind (arith, append_assoc)

-- one more function goes into the last idle stretch
more_idle : (ws : List ℕ) (ps : List (Session × List ℕ)) (w : ℕ) → (vs : List ℕ) × (qs : List (Session × List ℕ)) × (closed_events vs qs ≡ closed_events ws ps ++ Function w ∷ [])
more_idle ws [] w = (ws ++ w ∷ [], [], simp (map-append, append-nil))
more_idle ws (p ∷ ps) w =
    let m = more_idle p.1 ps w in
    (ws, (p.0, m.0) ∷ m.1, regroup (idle_stretch ws) (body p.0) (idle_stretch p.1) (flat_map whole_session ps) (idle_stretch m.0) (flat_map whole_session m.1) Disconnect (Function w) m.2)

pub after_function : (c : Course) (w : ℕ) → c.open_session ≡ None → HasCourse (events_of c ++ Function w ∷ []) None
after_function c w e =
    let m = more_idle c.first_stretch c.whole_sessions w in
    (record { first_stretch = m.0; whole_sessions = m.1; open_session = None }, rw e (simp append-nil m.2), refl)

pub after_activate : (c : Course) → c.open_session ≡ None → HasCourse (events_of c ++ Activate ∷ []) (Some (record { passed = []; lone = None }))
after_activate c e = (record { first_stretch = c.first_stretch; whole_sessions = c.whole_sessions; open_session = Some (record { passed = []; lone = None }) }, rw e (simp append-nil), refl)

pub after_disconnect : (c : Course) (s : Session) → c.open_session ≡ Some s → HasCourse (events_of c ++ Disconnect ∷ []) None
after_disconnect c s e = (record { first_stretch = c.first_stretch; whole_sessions = c.whole_sessions ++ (s, []) ∷ []; open_session = None }, rw e (simp (append-nil, flat_map-append, append_assoc)), refl)

pub after_put : (c : Course) (ws : List ℕ) (w : ℕ) → c.open_session ≡ Some (record { passed = ws; lone = None }) → HasCourse (events_of c ++ Put w ∷ []) (Some (record { passed = ws; lone = Some w }))
after_put c ws w e = (record { first_stretch = c.first_stretch; whole_sessions = c.whole_sessions; open_session = Some (record { passed = ws; lone = Some w }) }, rw e (simp (append-nil, append_assoc)), refl)

pub after_take : (c : Course) (ws : List ℕ) (w : ℕ) → c.open_session ≡ Some (record { passed = ws; lone = Some w }) → HasCourse (events_of c ++ Take w ∷ []) (Some (record { passed = ws ++ w ∷ []; lone = None }))
after_take c ws w e = (record { first_stretch = c.first_stretch; whole_sessions = c.whole_sessions; open_session = Some (record { passed = ws ++ w ∷ []; lone = None }) }, rw e (simp (append-nil, flat_map-append, append_assoc)), refl)
