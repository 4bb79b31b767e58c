-- A lawful history has one course.
use Rattle.std.proofs.Common.{◌≡◌, ℕ, List, [], ◌∷◌, ◌++◌, map, Option, Some, None, refl, sym, ap, ◌∙◌, append_assoc, subst, arith}
use Rattle.std.specs.Option.{option_to_list}
use Rattle.std.specs.List.{flat_map}
use Rattle.pp_channel.specs.History.{Course, events_of, idle_stretch, whole_session}
use Rattle.pp_channel.specs.Session.{Session, body}
use Rattle.pp_channel.specs.declared.event.Event.{Event}
use Rattle.pp_channel.specs.declared.event.Event.TheVariants.{Activate, Disconnect, Put, Take}

-- what may follow an idle stretch: nothing, or an Activate
abbrev pub BeginsSession : List Event → Type 0
BeginsSession [] = Unit {0}
BeginsSession (Activate ∷ events) = Unit {0}
BeginsSession (event ∷ events) = ⊥

-- what may follow the words of a session: nothing, or a Disconnect
abbrev EndsSession : List Event → Type 0
EndsSession [] = Unit {0}
EndsSession (Disconnect ∷ events) = Unit {0}
EndsSession (event ∷ events) = ⊥

-- ---- one part at the front of two lists

-- the function codes of an idle stretch, and what follows it
same_idle : (one other : List ℕ) (xs ys : List Event) → BeginsSession xs → BeginsSession ys → idle_stretch one ++ xs ≡ idle_stretch other ++ ys → (one ≡ other) × (xs ≡ ys)
same_idle [] [] xs ys begin begins e = (refl, e)
same_idle [] (v ∷ other) xs ys begin begins e = absurd (subst BeginsSession e begin)
same_idle (w ∷ one) [] xs ys begin begins e = absurd (subst BeginsSession (sym e) begins)
same_idle (w ∷ one) (v ∷ other) xs ys begin begins e =
    let rest : idle_stretch one ++ xs ≡ idle_stretch other ++ ys = cc in
    let same : w ≡ v = cc in
    let (codes, follow) = same_idle one other xs ys begin begins rest in
    (ap (λ (k : ℕ). k ∷ one) same ∙ ap (λ (ks : List ℕ). v ∷ ks) codes, follow)

-- the words of a session, and what follows them
abbrev pub passed_words : List ℕ → List Event
passed_words ws = flat_map (λ w. Put w ∷ Take w ∷ []) ws

abbrev pub lone_word : Option ℕ → List Event
lone_word o = map (λ w. Put w) (option_to_list o)

same_words : (one other : List ℕ) (a b : Option ℕ) (xs ys : List Event) → EndsSession xs → EndsSession ys → passed_words one ++ (lone_word a ++ xs) ≡ passed_words other ++ (lone_word b ++ ys) → (one ≡ other) × (a ≡ b) × (xs ≡ ys)
same_words [] [] None None xs ys end ends e = (refl, refl, e)
same_words [] [] None (Some v) xs ys end ends e = absurd (subst EndsSession e end)
same_words [] [] (Some w) None xs ys end ends e = absurd (subst EndsSession (sym e) ends)
same_words [] [] (Some w) (Some v) xs ys end ends e = (refl, let same : w ≡ v = cc in ap Some same, cc)
same_words [] (v ∷ other) None b xs ys end ends e = absurd (subst EndsSession e end)
same_words [] (v ∷ other) (Some w) b xs ys end ends e = grind (arith, passed_words, lone_word)
same_words (w ∷ one) [] a None xs ys end ends e = absurd (subst EndsSession (sym e) ends)
same_words (w ∷ one) [] a (Some v) xs ys end ends e = grind (arith, passed_words, lone_word)
same_words (w ∷ one) (v ∷ other) a b xs ys end ends e =
    let rest : passed_words one ++ (lone_word a ++ xs) ≡ passed_words other ++ (lone_word b ++ ys) = cc in
    let same : w ≡ v = cc in
    let (words, lone, follow) = same_words one other a b xs ys end ends rest in
    (ap (λ (k : ℕ). k ∷ one) same ∙ ap (λ (ks : List ℕ). v ∷ ks) words, lone, follow)

same_body : (s t : Session) (xs ys : List Event) → EndsSession xs → EndsSession ys → body s ++ xs ≡ body t ++ ys → (s ≡ t) × (xs ≡ ys)
same_body s t xs ys end ends e = grind (arith, passed_words, lone_word, append_assoc, same_words)

-- ---- courses

-- the sessions from some on, and the open one
abbrev pub sessions_on : List (Session × List ℕ) → Option Session → List Event
sessions_on whole open_one = flat_map whole_session whole ++ flat_map body (option_to_list open_one)

pub begins_with_session : (whole : List (Session × List ℕ)) (open_one : Option Session) → BeginsSession (sessions_on whole open_one)
begins_with_session [] None = tt
begins_with_session a b = tt

-- a whole session, and what follows it
pub whole_then : (s : Session) (codes : List ℕ) (whole : List (Session × List ℕ)) (open_one : Option Session) → sessions_on ((s, codes) ∷ whole) open_one ≡ body s ++ (Disconnect ∷ (idle_stretch codes ++ sessions_on whole open_one))
whole_then s codes whole open_one = grind (arith, append_assoc, sessions_on)

same_sessions : (one other : List (Session × List ℕ)) (a b : Option Session) → sessions_on one a ≡ sessions_on other b → (one ≡ other) × (a ≡ b)
same_sessions [] [] None None e = (refl, refl)
same_sessions [] [] (Some s) (Some t) e = let (same, rest) = same_body s t [] [] tt tt e in (refl, ap Some same)
same_sessions [] ((t, codes) ∷ other) (Some s) b e =
    let (same, rest) = same_body s t [] (Disconnect ∷ (idle_stretch codes ++ sessions_on other b)) tt tt (e ∙ whole_then t codes other b) in absurd (cc)
same_sessions ((s, codes) ∷ one) [] a (Some t) e =
    let (same, rest) = same_body s t (Disconnect ∷ (idle_stretch codes ++ sessions_on one a)) [] tt tt (sym (whole_then s codes one a) ∙ e) in absurd (cc)
same_sessions ((s, codes) ∷ one) ((t, others) ∷ other) a b e =
    let (same, rest) = same_body s t (Disconnect ∷ (idle_stretch codes ++ sessions_on one a)) (Disconnect ∷ (idle_stretch others ++ sessions_on other b)) tt tt (sym (whole_then s codes one a) ∙ e ∙ whole_then t others other b) in
    let behind : idle_stretch codes ++ sessions_on one a ≡ idle_stretch others ++ sessions_on other b = cc in
    let (idle, on) = same_idle codes others (sessions_on one a) (sessions_on other b) (begins_with_session one a) (begins_with_session other b) behind in
    let (wholes, opens) = same_sessions one other a b on in
    (ap (λ (x : Session). (x, codes) ∷ one) same ∙ ap (λ (ks : List ℕ). (t, ks) ∷ one) idle ∙ ap (λ (ps : List (Session × List ℕ)). (t, others) ∷ ps) wholes, opens)
same_sessions one other a b e = absurd (cc)

pub course_parts : (c : Course) → events_of c ≡ idle_stretch c.first_stretch ++ sessions_on c.whole_sessions c.open_session
course_parts c = append_assoc (idle_stretch c.first_stretch) (flat_map whole_session c.whole_sessions) (flat_map body (option_to_list c.open_session))

pub one_course : (one other : Course) → events_of one ≡ events_of other → one ≡ other
one_course one other e = grind (arith, same_idle, sessions_on, begins_with_session, course_parts, same_sessions)
