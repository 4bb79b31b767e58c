-- Workers with answers left, each of which goes on to its next entry or to its end.
use Rattle.std.proofs.Common.{cond, eqb, ◌≡◌, ℕ, zero, suc, ◌+◌, ◌<◌, List, [], ◌∷◌, ◌++◌, length, get_or, set, map, refl, sym, ap, ◌∙◌, subst, inl, inr, arith}
use Rattle.std.proofs.Math.Dec.{eqb-suc-suc, eqb-suc-zero, eqb-zero-suc}
use Rattle.std.proofs.lemmas.List.Sums.{sum_by-cons}
use Rattle.pp_report.specs.Types.{Access, Answer, Moved, Profile}
use Rattle.pp_processor.specs.NeedAndEffect.{need, outcome, processor_after}
use Rattle.pp_processor.specs.Processor.{Processor, no_processor}
use Rattle.pp_numbers.specs.Profile.{processors_in}
use Rattle.pp_runner.specs.Accesses.{accesses_by}
use Rattle.pp_report.proofs.AnswerLemmas.{GoesOn, kind_of}
use Rattle.pp_report.proofs.MachineLemmas.{Group, Past, Leads, Serves, all_left, leads_none, leads_on, leads_step}

-- a worker at some moment: its processor, the answers and the accesses that it has left, and the processor that these leave
pub record Working : Type 0 where
  pub pp : Processor
  pub answers : List Answer
  pub accesses : List Access
  pub after : Processor

abbrev pub Does : ℕ → Processor → List Answer → List Access → Processor → Type 0
Does size pp [] accesses after = (accesses ≡ []) × (pp ≡ after)
Does size pp (x ∷ xs) accesses after =
    GoesOn size pp x × ((number : ℕ) × (rest : List Access) × (accesses ≡ accesses_by number (need pp) x ++ rest) × Does size (processor_after pp x) xs rest after)

abbrev pub IsWorking : ℕ → Working → Type 0
IsWorking size w = Does size w.pp w.answers w.accesses w.after

-- the processors of workers with the answers that they have left, and others after them
abbrev pub all_of : List Processor → List Working → Group
all_of others ws = record { pps = map (λ w. w.pp) ws ++ others; left = map (λ w. w.answers) ws }

-- a worker between others
pub at_worker : (others : List Processor) (front ws : List Working) (w : Working) → get_or (all_of others (front ++ w ∷ ws)).pps (length front) no_processor ≡ w.pp
at_worker others [] ws w = refl
at_worker others (v ∷ front) ws w = at_worker others front ws w

pub set_worker : (others : List Processor) (front ws : List Working) (v w : Working) → set (all_of others (front ++ v ∷ ws)).pps (length front) w.pp ≡ (all_of others (front ++ w ∷ ws)).pps
set_worker others [] ws v w = refl
set_worker others (u ∷ front) ws v w = ap (λ pps. u.pp ∷ pps) (set_worker others front ws v w)

pub left_cons : (others : List Processor) (w : Working) (ws : List Working) → all_left (all_of others (w ∷ ws)) ≡ length w.answers + all_left (all_of others ws)
left_cons others w ws = sum_by-cons (λ (xs : List Answer). length xs) w.answers (map (λ (u : Working). u.answers) ws)

-- one that has got an answer has one less left, and the others as many
got_one : (front ws : List Working) (place : ℕ) (x : Answer) (v w : Working) → v.answers ≡ x ∷ w.answers
    → cond (eqb place (length front)) (x ∷ []) [] ++ get_or (map (λ (u : Working). u.answers) (front ++ w ∷ ws)) place [] ≡ get_or (map (λ (u : Working). u.answers) (front ++ v ∷ ws)) place []
got_one [] ws zero x v w is = sym is
got_one [] ws (suc place) x v w is = rw (eqb-suc-zero place) refl
got_one (u ∷ front) ws zero x v w is = rw (eqb-zero-suc (length front)) refl
got_one (u ∷ front) ws (suc place) x v w is = rw (eqb-suc-suc place (length front)) (got_one front ws place x v w is)

one_less : (others : List Processor) (front ws : List Working) (x : Answer) (v w : Working) → v.answers ≡ x ∷ w.answers → 1 + all_left (all_of others (front ++ w ∷ ws)) ≡ all_left (all_of others (front ++ v ∷ ws))
one_less others [] ws x v w is =
    let counted : length v.answers ≡ length (x ∷ w.answers) = ap length is in
    omega (arith, counted, left_cons others w ws, left_cons others v ws)
one_less others (u ∷ front) ws x v w is = omega (arith, one_less others front ws x v w is, left_cons others u (front ++ v ∷ ws), left_cons others u (front ++ w ∷ ws))

-- how an access is served, whichever step it is of
abbrev pub ServesAccess : ℕ → Access → Past → Past → Type 0
ServesAccess size access past later = (pp : Processor) (x : Answer) (number : ℕ) → GoesOn size pp x → accesses_by number (need pp) x ≡ access ∷ [] → Serves size (need pp) x past later

module _ (size : ℕ) (p : Profile) (others : List Processor) (front ws : List Working) (inside : length front < processors_in p) where
  -- one answer of the worker between them
  one_answer : (x : Answer) (v w : Working) (past later : Past) → w.pp ≡ processor_after v.pp x → v.answers ≡ x ∷ w.answers
      → outcome v.pp x ≡ Moved → Serves size (need v.pp) x past later → Leads size p (all_of others (front ++ v ∷ ws)) past (all_of others (front ++ w ∷ ws)) later
  one_answer x v w past later next got moved serves =
      let here = at_worker others front ws v in
      leads_step size p (all_of others (front ++ v ∷ ws)) (all_of others (front ++ w ∷ ws)) (length front) x past later inside (subst (λ (q : Processor). outcome q x ≡ Moved) (sym here) moved) (subst (λ (q : Processor). Serves size (need q) x past later) (sym here) serves)
      (sym (ap (λ q. set (all_of others (front ++ v ∷ ws)).pps (length front) q) (ap (λ q. processor_after q x) here ∙ sym next) ∙ set_worker others front ws v w))
      (λ place. got_one front ws place x v w got) (one_less others front ws x v w got)

  -- the worker has made all its steps up to the one of its next entry
  pub record HasNext (w : Working) (rest : List Access) (past later : Past) : Type 0 where
    pub now : Working
    pub working : IsWorking size now
    pub accesses : now.accesses ≡ rest
    pub after_is : now.after ≡ w.after
    pub leads : Leads size p (all_of others (front ++ w ∷ ws)) past (all_of others (front ++ now ∷ ws)) later

  pub next : (xs : List Answer) (pp : Processor) (accesses : List Access) (after : Processor) (access : Access) (rest : List Access) (past later : Past)
      → Does size pp xs accesses after → accesses ≡ access ∷ rest → ServesAccess size access past later
      → HasNext (record { pp = pp; answers = xs; accesses = accesses; after = after }) rest past later
  next [] pp accesses after access rest past later does is serves = let none : [] ≡ access ∷ rest = sym does.0 ∙ is in absurd cc
  next (x ∷ xs) pp accesses after access rest past later does is serves =
      let goes = does.0 in
      let left = does.1.1 in
      let are : accesses ≡ accesses_by does.1.0 (need pp) x ++ left = does.1.2 in
      let v : Working = record { pp = pp; answers = x ∷ xs; accesses = accesses; after = after } in
      let w : Working = record { pp = processor_after pp x; answers = xs; accesses = left; after = after } in
      elim (kind_of size pp x goes) [
        | inl local ↦
            let same : left ≡ access ∷ rest = sym (are ∙ ap (λ f. f ++ left) (local.given does.1.0)) ∙ is in
            let more = next xs (processor_after pp x) left after access rest past later does.1.3 same serves in record {
              now = more.now;
              working = more.working;
              accesses = more.accesses;
              after_is = more.after_is;
              leads = leads_on size p (all_of others (front ++ v ∷ ws)) (all_of others (front ++ w ∷ ws)) (all_of others (front ++ more.now ∷ ws)) past past later (one_answer x v w past past refl refl goes.moved (local.serves past)) more.leads;
            }
        | inr of ↦
            let same : of.access does.1.0 ∷ left ≡ access ∷ rest = sym (are ∙ ap (λ f. f ++ left) (of.given does.1.0)) ∙ is in
            let head : of.access does.1.0 ≡ access = cc in
            let tail : left ≡ rest = cc in record {
              now = w;
              working = does.1.3;
              accesses = tail;
              after_is = refl;
              leads = one_answer x v w past later refl refl goes.moved (serves pp x does.1.0 goes (of.given does.1.0 ∙ ap (λ a. a ∷ []) head));
            }
      ]

  -- the worker has made all its steps
  pub record HasDone (w : Working) (past : Past) : Type 0 where
    pub now : Working
    pub done : now.pp ≡ w.after
    pub none : now.answers ≡ []
    pub leads : Leads size p (all_of others (front ++ w ∷ ws)) past (all_of others (front ++ now ∷ ws)) past

  pub rest_done : (xs : List Answer) (pp : Processor) (accesses : List Access) (after : Processor) (past : Past)
      → Does size pp xs accesses after → accesses ≡ [] → HasDone (record { pp = pp; answers = xs; accesses = accesses; after = after }) past
  rest_done [] pp accesses after past does is =
      let v : Working = record { pp = pp; answers = []; accesses = accesses; after = after } in
      record { now = v; done = does.1; none = refl; leads = leads_none size p (all_of others (front ++ v ∷ ws)) past }
  rest_done (x ∷ xs) pp accesses after past does is =
      let left = does.1.1 in
      let are : accesses ≡ accesses_by does.1.0 (need pp) x ++ left = does.1.2 in
      let v : Working = record { pp = pp; answers = x ∷ xs; accesses = accesses; after = after } in
      let w : Working = record { pp = processor_after pp x; answers = xs; accesses = left; after = after } in
      elim (kind_of size pp x does.0) [
        | inl local ↦
            let same : left ≡ [] = sym (are ∙ ap (λ f. f ++ left) (local.given does.1.0)) ∙ is in
            let more = rest_done xs (processor_after pp x) left after past does.1.3 same in record {
              now = more.now;
              done = more.done;
              none = more.none;
              leads = leads_on size p (all_of others (front ++ v ∷ ws)) (all_of others (front ++ w ∷ ws)) (all_of others (front ++ more.now ∷ ws)) past past past (one_answer x v w past past refl refl does.0.moved (local.serves past)) more.leads;
            }
        | inr of ↦ grind arith
      ]
