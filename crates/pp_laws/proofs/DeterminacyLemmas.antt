-- Every order of steps follows a list that is determinate, and one that ends quiet ends as it does.
use Rattle.std.proofs.Common.{◌≡◌, ◌≢◌, ℕ, zero, suc, ◌+◌, ◌<◌, ◌≤◌, IsTrue, List, [], ◌∷◌, length, take, drop, get_or, refl, sym, ap, ◌∙◌, subst, inl, inr, arith}
use Rattle.std.specs.Prelude.{◌⊎◌, nat_lt, slice_get}
use Rattle.std.proofs.lemmas.Option.{slice_get_past}
use Rattle.std.proofs.lemmas.Bool.{cases_eq, cases_lt}
use Rattle.std.proofs.lemmas.List.{length_push, ext_get_or, length-drop, drop_more}
use Rattle.pp_numbers.specs.ChannelNo.{channel_count, names_channel}
use Rattle.pp_channel.specs.declared.{chan_op.ChanOp.ChanOp, event.Event.Event}
use Rattle.pp_machine.specs.MachineState.{MachineState, processor_of, history_of}
use Rattle.pp_machine.specs.MachineStep.{answer_to, counted, stepped}
use Rattle.pp_processor.specs.NeedAndEffect.{need, processor_after}
use Rattle.pp_processor.specs.Processor.{Processor, IsAtRest}
use Rattle.pp_numbers.specs.PpNo.{processor_count}
use Rattle.pp_machine.specs.Run.{run}
use Rattle.pp_processor.specs.declared.{answer.Answer.Answer, need.Need.Need}
use Rattle.pp_processor.specs.declared.need.Need.TheVariants.{Local, Channel, Read, Write}
use Rattle.pp_machine.proofs.MachineStepLemmas.{stepped_at_rest, event_at_rest}
use Rattle.pp_run.specs.Determinacy.{Waits, IsQuiet, IsDeterminate, IsNoRaceAt, IsRaceFreeOn, Stays, TurnsInPlace, WaitsForGood, WritesAt, IsEmbeddedIn, ShowsParts, made_on, AreAlike, at_moment, processor_at, history_at, need_at, MayFind}
use Rattle.pp_run.specs.Determinacy.IsEmbeddedIn.{over, next, beside}
use Rattle.pp_run.specs.Determinacy.MayFind.{start, both_advance}
use Rattle.pp_run.proofs.StepFacts.{own_step, other_step, central_by, made_unless, history_unless, event_by_need, event_by, length_processors, length_histories, length_central}
use Rattle.pp_run.proofs.Moments.{moment_past, run_central, history_step, still, sides, made_still}
use Rattle.pp_orders.specs.Endings.{AreAllEndings}
use Rattle.pp_orders.proofs.LawLemmas.{only_ending}
use Rattle.pp_laws.proofs.Standing.{Owns, word_of, Goes, Follows, CatchUp, read_alike, stays_alike, catch_up}
use Rattle.pp_laws.proofs.Steps.{Advances, kept_by_stay, kept_at_rest, kept_in_place, off_channel, the_same, as_then}

-- processor q finds its channel before its moment, and waits
pub record FindsEarly (ns : List ℕ) (m : MachineState) (reached stood : ℕ → ℕ) (q : ℕ) : Type 0 where
  pub channel : ℕ
  pub operation : ChanOp
  pub needs : need (processor_at ns m q (reached q)) ≡ Channel channel operation
  pub exists : IsTrue (names_channel channel)
  pub early : stood channel < reached q
  pub stays : Stays operation (processor_at ns m q (reached q)) (history_at ns m channel (stood channel))

-- the order follows the list, and has come to moment t of it
pub record ComesTo (ns : List ℕ) (m now : MachineState) (t : ℕ) : Type 0 where
  pub reached : ℕ → ℕ
  pub stood : ℕ → ℕ
  pub follows : Follows ns m now reached stood
  pub past : (q : ℕ) → t ≤ reached q

writes_or_not : (a : ℕ) (x : Need) → WritesAt a x ⊎ ((w : ℕ) → x ≡ Write a w → ⊥)
writes_or_not a (Write b v) = elim (cases_eq b a) [
  | inl same ↦ inl (v, ap (λ k. Write k v) same)
  | inr other ↦ inr (λ w e. other (cc))
]
writes_or_not a other = inr (λ w e. cc)

module _ (ns : List ℕ) (m : MachineState) (all : length m.processors ≡ processor_count) (each : length m.histories ≡ channel_count) (d : IsDeterminate ns m) where
  -- a processor's next step is made, or finds its channel early
  go_on : (now : MachineState) (reached stood : ℕ → ℕ) → Follows ns m now reached stood → (q : ℕ) → Goes ns m q (reached q) → Advances ns m (stepped q now) reached q ⊎ FindsEarly ns m reached stood q
  go_on now reached stood f q go = by_need (need (processor_at ns m q (reached q))) refl
    where
      here : need_at ns m (reached q) ≡ need (processor_at ns m q (reached q))
      here = ap (λ k. need (processor_at ns m k (reached q))) go.mine

      sizes : length now.central ≡ length (at_moment ns m (reached q)).central
      sizes = f.stands.size ∙ sym (run_central (take (reached q) ns) m)

      by_need : (x : Need) → need (processor_at ns m q (reached q)) ≡ x → Advances ns m (stepped q now) reached q ⊎ FindsEarly ns m reached stood q
      by_need (Read a) e =
          let same : slice_get now.central a ≡ slice_get (at_moment ns m (reached q)).central a = elim (cases_lt a (length m.central)) [
            | inl low ↦
                let owns : Owns ns m q a = λ u h w g. d.race_free.apart u (reached q) a h go.within low (w, g) (inl (here ∙ e)) ∙ go.mine in
                read_alike a now (at_moment ns m (reached q)) sizes (f.stands.word q a owns)
            | inr past ↦
                let size : length now.central ≡ length m.central = f.stands.size in
                slice_get_past now.central a (omega arith) ∙ sym (slice_get_past (at_moment ns m (reached q)).central a (omega (arith, sizes)))
          ] in
          inl (off_channel ns m all each d now reached stood f q (Read a) go e (λ c op g. cc) (ap (λ x. Answer.Read x) same))
      by_need (Write a w) e =
          inl (off_channel ns m all each d now reached stood f q (Write a w) go e (λ c op g. cc)
          (ap (λ k. Answer.Wrote (nat_lt a k)) sizes))
      by_need (Channel c op) e =
          let timely : IsRaceFreeOn ns m (reached q) c op = go.timely c op (here ∙ e) in
          let found : MayFind ns m (get_or ns (reached q) 0) c (reached q) (stood c) = subst (λ (k : ℕ). MayFind ns m k c (reached q) (stood c)) (sym go.mine) (f.stands.may q c) in
          let fit : IsNoRaceAt ns m (reached q) c op (processor_at ns m q (reached q)) (stood c) = subst (λ (k : ℕ). IsNoRaceAt ns m (reached q) c op (processor_at ns m k (reached q)) (stood c)) go.mine (timely.in_time (stood c) found) in
          elim fit [
            | inl same ↦ inl (as_then ns m all each d now reached stood f q c op go e timely.exists same)
            | inr or ↦ elim or [
              | inl same ↦ inl (the_same ns m all each d now reached stood f q c op go e same)
              | inr waits ↦ inr (record { channel = c; operation = op; needs = e; exists = timely.exists; early = waits.0; stays = waits.1 })
            ]
          ]
      by_need other e = inl (off_channel ns m all each d now reached stood f q other go e (λ c op g. cc) refl)

  -- a step of any processor keeps what all have come to
  comes_still : (now : MachineState) (t n : ℕ) → ComesTo ns m now t → ComesTo ns m (stepped n now) t
  comes_still now t n r = elim (r.follows.next n) [
    | inr go ↦ elim (go_on now r.reached r.stood r.follows n go) [
      | inl made ↦ record {
        reached = made.new_reached;
        stood = made.new_stood;
        follows = made.follows;
        past = λ x. (let before : t ≤ r.reached x = r.past x in elim (cases_eq x n) [
          | inl same ↦
              let more : suc (r.reached n) ≤ made.new_reached n = made.further in
              subst (λ (k : ℕ). t ≤ made.new_reached k) (sym same) (omega (arith, r.past n))
          | inr other ↦ let e : made.new_reached x ≡ r.reached x = made.others x other in omega arith
        ]);
      }
      | inr waits ↦
          let s = r.follows.stands in
          stays_put (kept_by_stay ns m all each d now r.reached r.stood r.follows n waits.channel waits.operation
          (ap (λ p. need p) (s.processor n) ∙ waits.needs)
          (stays_alike waits.operation (processor_of n now) (processor_at ns m n (r.reached n)) (history_of waits.channel now) (history_at ns m waits.channel (r.stood waits.channel)) (s.processor n) (s.history waits.channel) waits.stays))
    ]
    | inl end ↦
        let s = r.follows.stands in
        let ended : processor_of n now ≡ processor_of n (run ns m) = s.processor n ∙ ap (λ k. processor_of n k) (moment_past ns m (r.reached n) (omega arith)) in
        elim (d.settled n) [
          | inl rests ↦ stays_put (kept_at_rest ns m all each d now r.reached r.stood r.follows n (subst (λ (p : Processor). IsAtRest p) (sym ended) rests))
          | inr goes ↦ elim goes [
            | inl turns ↦ stays_put (kept_in_place ns m all each d now r.reached r.stood r.follows n (subst (λ (p : Processor). TurnsInPlace p) (sym ended) turns))
            | inr w ↦
                let c = w.0 in
                let op = w.1 in
                let good : WaitsForGood ns m n c op = w.2 in
                let found : MayFind ns m n c (length ns) (r.stood c) = subst (λ (k : ℕ). MayFind ns m n c k (r.stood c)) end (s.may n c) in
                stays_put (kept_by_stay ns m all each d now r.reached r.stood r.follows n c op
                (ap (λ p. need p) ended ∙ good.waits)
                (stays_alike op (processor_of n now) (processor_of n (run ns m)) (history_of c now) (history_at ns m c (r.stood c)) ended (s.history c) (good.for_good (r.stood c) found)))
          ]
        ]
  ]
    where
      stays_put : Follows ns m (stepped n now) r.reached r.stood → ComesTo ns m (stepped n now) t
      stays_put g = record { reached = r.reached; stood = r.stood; follows = g; past = r.past }

  comes_in_run : (others : List ℕ) (now : MachineState) (t : ℕ) → ComesTo ns m now t → ComesTo ns m (run others now) t
  comes_in_run [] now t r = r
  comes_in_run (n ∷ others) now t r = comes_in_run others (stepped n now) t (comes_still now t n r)

  at_start : ComesTo ns m m zero
  at_start =
      let c : (q : ℕ) → CatchUp ns m q zero = λ q. catch_up ns m all each d (length ns) q zero (omega arith) (omega arith) in
      record {
        reached = λ q. (c q).to;
        stood = λ k. zero;
        follows = record {
          stands = record {
            all = all;
            each = each;
            size = refl;
            within = λ q. (c q).within;
            processor = λ q. sym (c q).processor;
            history = λ k. refl;
            made = λ k names. refl;
            may = λ q k. (c q).may k zero start;
            word = λ q a owns. sym ((c q).word a owns);
          };
          next = λ q. (c q).next;
        };
        past = λ q. omega arith;
      }

  -- a step that waits may be taken back
  unstepped : (now : MachineState) (q : ℕ) (reached stood : ℕ → ℕ) → Waits q now → Follows ns m (stepped q now) reached stood → Follows ns m now reached stood
  unstepped now q reached stood w f =
      let s = f.stands in
      let each_now : length now.histories ≡ channel_count = sym (length_histories q now) ∙ s.each in
      let all_now : length now.processors ≡ processor_count = sym (length_processors q now) ∙ s.all in
      record {
        stands = record {
          all = all_now;
          each = each_now;
          size = sym (length_central q now) ∙ s.size;
          within = s.within;
          processor = λ x. elim (cases_eq x q) [
            | inl same ↦ subst (λ (k : ℕ). processor_of k now ≡ processor_at ns m k (reached k)) (sym same) (sym w.processor ∙ s.processor q)
            | inr other ↦ sym (other_step x q now all_now other) ∙ s.processor x
          ];
          history = λ c. sym (history_unless q c now each_now (λ op e. sym (event_by_need q c op now e) ∙ w.event)) ∙ s.history c;
          made = λ c names. sym (made_unless q c now (λ op e. sym (event_by_need q c op now e) ∙ w.event)) ∙ s.made c names;
          may = s.may;
          word = λ x a owns. ap (λ (ws : List ℕ). get_or ws a 0) (sym w.central) ∙ s.word x a owns;
        };
        next = f.next;
      }

  -- from where all have come to moment t on, a channel that stands before it stands as at t
  flat_from : (now : MachineState) (t : ℕ) (r : ComesTo ns m now t) (c u : ℕ) → r.stood c ≤ u → u < t → history_at ns m c (suc u) ≡ history_at ns m c u
  flat_from now t r c u low high = elim (history_step ns m each c u) [
    | inl stays ↦ stays
    | inr more ↦
        let q = get_or ns u 0 in
        let past : t ≤ r.reached q = r.past q in
        let event : history_at ns m c (suc u) ≡ history_at ns m c u → ⊥ = λ same. omega (arith, ap (λ (k : List Event). length k) same, ap (λ (k : List Event). length k) more.1, length_push (history_at ns m c u) more.0) in
        let before : u < r.stood c = (sides ns m each q c (r.follows.stands.may q c) u refl event).0 (omega arith) in
        absurd (omega arith)
  ]

  unchanged : (now : MachineState) (t : ℕ) (r : ComesTo ns m now t) (c : ℕ) → r.stood c ≤ t → history_at ns m c t ≡ history_at ns m c (r.stood c)
  unchanged now t r c h = still ns m each c (r.stood c) t h (flat_from now t r c)

  -- who has not come past moment t takes step t
  takes : (now : MachineState) (t : ℕ) (r : ComesTo ns m now t) → t < length ns → (x : ℕ) → x ≢ get_or ns t 0 → suc t ≤ r.reached x
  takes now t r within x other = grind (arith, cases_lt)

  after_advance : (now : MachineState) (t : ℕ) (r : ComesTo ns m now t) → t < length ns → r.reached (get_or ns t 0) ≡ t → Advances ns m (stepped (get_or ns t 0) now) r.reached (get_or ns t 0) → ComesTo ns m (stepped (get_or ns t 0) now) (suc t)
  after_advance now t r within here made =
      let q = get_or ns t 0 in
      record {
        reached = made.new_reached;
        stood = made.new_stood;
        follows = made.follows;
        past = λ x. elim (cases_eq x q) [
          | inl same ↦
              let further : suc (r.reached q) ≤ made.new_reached q = made.further in
              subst (λ (k : ℕ). suc t ≤ made.new_reached k) (sym same) (omega arith)
          | inr other ↦ subst (λ (k : ℕ). suc t ≤ k) (sym (made.others x other)) (takes now t r within x other)
        ];
      }

  -- and one of the processor that takes step t brings all past it
  comes_on : (now : MachineState) (t : ℕ) → t < length ns → ComesTo ns m now t → ComesTo ns m (stepped (get_or ns t 0) now) (suc t)
  comes_on now t within r =
      let q = get_or ns t 0 in
      let come : t ≤ r.reached q = r.past q in
      elim (cases_lt t (r.reached q)) [
        | inl beyond ↦ comes_still now (suc t) q (record {
          reached = r.reached;
          stood = r.stood;
          follows = r.follows;
          past = λ x. elim (cases_eq x q) [
            | inl same ↦ subst (λ (k : ℕ). suc t ≤ r.reached k) (sym same) (omega arith)
            | inr other ↦ takes now t r within x other
          ];
        })
        | inr not_beyond ↦
            let here : r.reached q ≡ t = omega arith in
            elim (r.follows.next q) [
              | inl end ↦ absurd (omega arith)
              | inr go ↦ elim (go_on now r.reached r.stood r.follows q go) [
                | inl made ↦ after_advance now t r within here made
                | inr waits ↦
                    let c = waits.channel in
                    let early : r.stood c < r.reached q = waits.early in
                    let same : history_at ns m c (r.stood c) ≡ history_at ns m c (r.reached q) = sym (unchanged now t r c (omega arith)) ∙ ap (λ k. history_at ns m c k) (sym here) in
                    after_advance now t r within here
                    (as_then ns m all each d now r.reached r.stood r.follows q c waits.operation go waits.needs waits.exists same)
              ]
            ]
      ]

  -- where the machine is quiet, all have come to the end
  comes_to : (now : MachineState) → ComesTo ns m now zero → IsQuiet now → (t : ℕ) → t ≤ length ns → ComesTo ns m now t
  comes_to now first quiet zero h = first
  comes_to now first quiet (suc t) h =
      let r = comes_on now t (omega arith) (comes_to now first quiet t (omega arith)) in
      record {
        reached = r.reached;
        stood = r.stood;
        follows = unstepped now (get_or ns t 0) r.reached r.stood (quiet.waits (get_or ns t 0)) r.follows;
        past = r.past;
      }

  -- and so they have where the list stands in the order
  comes_through : (rest others : List ℕ) → IsEmbeddedIn rest others → (now : MachineState) (t : ℕ) → t ≤ length ns → drop t ns ≡ rest → ComesTo ns m now t → ComesTo ns m (run others now) (length ns)
  comes_through rest others (over others2) now t h e r =
      let ends : length ns ≤ t = omega (arith, length-drop t ns, ap (λ (ks : List ℕ). length ks) e) in
      comes_in_run others2 now (length ns)
      (record { reached = r.reached; stood = r.stood; follows = r.follows; past = λ x. (let p : t ≤ r.reached x = r.past x in omega arith) })
  comes_through rest others (next n more others2 in_rest) now t h e r =
      let longer : length (drop t ns) ≡ suc (length more) = ap (λ (ks : List ℕ). length ks) e in
      let within : t < length ns = omega (arith, length-drop t ns) in
      let whole : get_or ns t 0 ∷ drop (t + 1) ns ≡ n ∷ more = sym (drop_more ns t 0 within) ∙ e in
      let first : get_or ns t 0 ≡ n = cc in
      let one : suc t ≡ t + 1 = omega arith in
      let left : drop (suc t) ns ≡ more = ap (λ k. drop k ns) one ∙ (cc) in
      comes_through more others2 in_rest (stepped n now) (suc t) (omega arith) left
      (subst (λ (k : ℕ). ComesTo ns m (stepped k now) (suc t)) first (comes_on now t within r))
  comes_through rest others (beside n more others2 in_rest) now t h e r = grind (arith, comes_still, comes_through more others2 in_rest (stepped n now) t h e (comes_still now t n r))

  find_writer : (a k : ℕ) → k ≤ length ns → ((u : ℕ) × (u < length ns) × WritesAt a (need_at ns m u)) ⊎ ((u : ℕ) → u < k → (w : ℕ) → need_at ns m u ≡ Write a w → ⊥)
  find_writer a zero h = inr (λ u low w e. absurd (omega arith))
  find_writer a (suc k) h = elim (find_writer a k (omega arith)) [
    | inl found ↦ inl found
    | inr none ↦ elim (writes_or_not a (need_at ns m k)) [
      | inl writes ↦ inl (k, omega arith, writes)
      | inr not_here ↦ inr (λ u low w e. elim (cases_lt u k) [
        | inl below ↦ none u below w e
        | inr past ↦
            let here : u ≡ k = omega arith in
            not_here w (ap (λ j. need_at ns m j) (sym here) ∙ e)
      ])
    ]
  ]

  owner : (a : ℕ) → a < length m.central → (q : ℕ) × Owns ns m q a
  owner a low = elim (find_writer a (length ns) (omega arith)) [
    | inl found ↦ (get_or ns found.0 0, (λ u h w e. d.race_free.apart u found.0 a h found.1 low (w, e) (inr found.2)))
    | inr none ↦ (zero, (λ u h w e. absurd (none u h w e)))
  ]

  alike_at_end : (now : MachineState) → ComesTo ns m now (length ns) → AreAlike now (run ns m)
  alike_at_end now r =
      let s = r.follows.stands in
      let end = moment_past ns m (length ns) (omega arith) in
      let at_end : (q : ℕ) → r.reached q ≡ length ns = λ q. (let past : length ns ≤ r.reached q = r.past q in let within : r.reached q ≤ length ns = s.within q in omega arith) in
      record {
        processors = λ q. s.processor q ∙ ap (λ k. processor_at ns m q k) (at_end q) ∙ ap (λ k. processor_of q k) end;
        histories = λ c. s.history c ∙ elim (cases_lt (r.stood c) (length ns)) [
          | inl below ↦ sym (unchanged now (length ns) r c (omega arith)) ∙ ap (λ k. history_of c k) end
          | inr past ↦ ap (λ k. history_of c k) (moment_past ns m (r.stood c) past)
        ];
        made = λ c names. s.made c names ∙ elim (cases_lt (r.stood c) (length ns)) [
          | inl below ↦ sym (made_still ns m each c (r.stood c) (length ns) names (omega arith) (flat_from now (length ns) r c)) ∙ ap (λ (k : MachineState). made_on c k.trace) end
          | inr past ↦ ap (λ (k : MachineState). made_on c k.trace) (moment_past ns m (r.stood c) past)
        ];
        central = ext_get_or 0 now.central (run ns m).central (s.size ∙ sym (run_central ns m)) (λ a low.
            let size : length now.central ≡ length m.central = s.size in
            let o = owner a (omega arith) in
            s.word o.0 a o.1 ∙ ap (λ k. word_of a (at_moment ns m k)) (at_end o.0) ∙ ap (λ k. word_of a k) end);
      }

  -- the list itself ends quiet
  quiet_end : (q : ℕ) → Waits q (run ns m)
  quiet_end q = elim (d.settled q) [
    | inl rests ↦
        let same : stepped q (run ns m) ≡ record (run ns m) { turns = counted (run ns m).turns } = stepped_at_rest q (run ns m) rests in
        record {
          processor = ap (λ k. processor_of q k) same;
          event = event_at_rest q (run ns m) rests;
          central = ap (λ (k : MachineState). k.central) same;
        }
    | inr goes ↦ elim goes [
      | inl turns ↦ record {
        processor = own_step q (run ns m) ∙ ap (λ x. processor_after (processor_of q (run ns m)) (answer_to x (run ns m))) turns.needs ∙ turns.stays;
        event = event_by q (run ns m) Local turns.needs;
        central = central_by q (run ns m) Local turns.needs;
      }
      | inr w ↦
          let c = w.0 in
          let op = w.1 in
          let good : WaitsForGood ns m q c op = w.2 in
          let end : history_at ns m c (length ns) ≡ history_of c (run ns m) = ap (λ k. history_of c k) (moment_past ns m (length ns) (omega arith)) in
          let stay : Stays op (processor_of q (run ns m)) (history_of c (run ns m)) = subst (λ (h : List Event). Stays op (processor_of q (run ns m)) h) end (good.for_good (length ns) (together q c (length ns))) in
          record {
            processor = own_step q (run ns m) ∙ ap (λ x. processor_after (processor_of q (run ns m)) (answer_to x (run ns m))) good.waits ∙ stay.stays;
            event = event_by_need q c op (run ns m) good.waits ∙ stay.no_event;
            central = central_by q (run ns m) (Channel c op) good.waits;
          }
    ]
  ]
    where
      together : (k c t : ℕ) → MayFind ns m k c t t
      together k c zero = start
      together k c (suc t) = both_advance t (together k c t)

pub shows_parts : (ns others : List ℕ) (m : MachineState) → length m.processors ≡ processor_count → length m.histories ≡ channel_count → IsDeterminate ns m → ShowsParts ns m (run others m)
shows_parts ns others m all each d =
    let some = comes_in_run ns m all each d others m zero (at_start ns m all each d) in
    record {
      processors = λ q. (some.reached q, some.follows.stands.processor q);
      channels = λ c. (some.stood c, record { history = some.follows.stands.history c; made = some.follows.stands.made c });
    }

pub ends_alike : (ns others : List ℕ) (m : MachineState) → length m.processors ≡ processor_count → length m.histories ≡ channel_count → IsDeterminate ns m → IsQuiet (run others m) → AreAlike (run others m) (run ns m)
ends_alike ns others m all each d quiet =
    alike_at_end ns m all each d (run others m)
    (comes_to ns m all each d (run others m) (comes_in_run ns m all each d others m zero (at_start ns m all each d)) quiet (length ns) (omega arith))

pub comes_alike : (ns others : List ℕ) (m : MachineState) → length m.processors ≡ processor_count → length m.histories ≡ channel_count → IsDeterminate ns m → IsEmbeddedIn ns others → AreAlike (run others m) (run ns m)
comes_alike ns others m all each d in_others =
    alike_at_end ns m all each d (run others m) (comes_through ns m all each d ns others in_others m zero (omega arith) refl (at_start ns m all each d))

pub ends_quiet : (ns : List ℕ) (m : MachineState) → length m.processors ≡ processor_count → length m.histories ≡ channel_count → IsDeterminate ns m → IsQuiet (run ns m)
ends_quiet ns m all each d = record { waits = quiet_end ns m all each d }

-- so the list leads to the only ending
pub one_ending : (ns : List ℕ) (m : MachineState) → length m.processors ≡ processor_count → length m.histories ≡ channel_count → IsDeterminate ns m → AreAllEndings m (ns ∷ [])
one_ending ns m all each d = only_ending m ns all (ends_quiet ns m all each d) (λ others in_others. comes_alike ns others m all each d in_others)

pub ruleset every_order = (ends_quiet, shows_parts, ends_alike, comes_alike)
