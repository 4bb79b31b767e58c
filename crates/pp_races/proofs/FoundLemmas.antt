-- What an operation that made no event would have done at other flags, and when it makes none.
use Rattle.std.proofs.Common.{◌≡◌, ℕ, Bool, true, false, List, Option, Some, None, refl, ◌∙◌}
use Rattle.std.specs.Prelude.{not, is_some, if◌then◌else◌, option_map}
use Rattle.std.proofs.lemmas.Bool.{and_parts}
use Rattle.pp_channel.specs.Answer.{event_of, flags_of, ready_at}
use Rattle.pp_channel.specs.declared.{chan_op.ChanOp.ChanOp, flags.Flags.Flags, event.Event.Event}
use Rattle.pp_processor.specs.Processor.{Processor}
use Rattle.pp_channel.specs.History.{IsLawful, HasTwelveBitWords, waiting}
use Rattle.pp_channel.proofs.AnswerLemmas.{full_register}
use Rattle.pp_processor.specs.Positions.{is_same, position_at, position_of}
use Rattle.pp_races.specs.OtherFlags.{found_at, is_alike, is_race, makes_none}
use Rattle.pp_races.specs.declared.found.Found.TheVariants.{Alike, Waits, Races}

-- ---- found at other flags

found_where : (b same waits : Bool) → b ≡ true → is_race (if not b then Races else if same then Alike else if waits then Waits else Races) ≡ false → (same ≡ true → ⊥) → waits ≡ true
found_where true true waits b_is is apart = absurd (apart refl)
found_where true false true b_is is apart = refl
found_where b same waits b_is is apart = absurd cc

none_where : (b same waits : Bool) → is_race (if not b then Races else if same then Alike else if waits then Waits else Races) ≡ false → b ≡ true
none_where true same waits is = refl
none_where false same waits is = absurd cc

alike_where : (b same waits : Bool) → is_alike (if not b then Races else if same then Alike else if waits then Waits else Races) ≡ true → (b ≡ true) × (same ≡ true)
alike_where true true waits is = (refl, refl)
alike_where true false true is = absurd cc
alike_where b same waits is = absurd cc

alike_from : (b same waits : Bool) → b ≡ true → same ≡ true → is_alike (if not b then Races else if same then Alike else if waits then Waits else Races) ≡ true
alike_from true true waits b_is is = refl
alike_from true false waits b_is is = absurd cc
alike_from false same waits b_is is = absurd cc

module _ (op : ChanOp) (pp : Processor) (now f : Flags) where
  pub race_none : is_race (found_at op pp now f) ≡ false → makes_none op f ≡ true
  race_none is = none_where (makes_none op f) (is_same (position_at op pp f) (position_at op pp now)) (is_same (position_at op pp f) (position_of pp)) is

  pub race_waits : is_race (found_at op pp now f) ≡ false → (is_same (position_at op pp f) (position_at op pp now) ≡ true → ⊥) → is_same (position_at op pp f) (position_of pp) ≡ true
  race_waits is apart = found_where (makes_none op f) (is_same (position_at op pp f) (position_at op pp now)) (is_same (position_at op pp f) (position_of pp)) (race_none is) is apart

  pub alike_parts : is_alike (found_at op pp now f) ≡ true → (makes_none op f ≡ true) × (is_same (position_at op pp f) (position_at op pp now) ≡ true)
  alike_parts is = alike_where (makes_none op f) (is_same (position_at op pp f) (position_at op pp now)) (is_same (position_at op pp f) (position_of pp)) is

  pub alike_is : makes_none op f ≡ true → is_same (position_at op pp f) (position_at op pp now) ≡ true → is_alike (found_at op pp now f) ≡ true
  alike_is none same = alike_from (makes_none op f) (is_same (position_at op pp f) (position_at op pp now)) (is_same (position_at op pp f) (position_of pp)) none same

-- ---- an operation that makes no event, by its channel

not_ready : {X : Type 0} (b : Bool) (x : X) → (if b then Some x else None) ≡ None → not b ≡ true
not_ready true x is = absurd cc
not_ready false x is = refl

not_full : (b : Bool) (word : Option ℕ) → (b ≡ true → is_some word ≡ true) → (if b then option_map (λ w. Event.Take w) word else None) ≡ None → not b ≡ true
not_full false word some is = refl
not_full true None some is = (let bad : false ≡ true = some refl in absurd cc)
not_full true (Some w) some is = absurd cc

pub none_made_makes_none : (op : ChanOp) (h : List Event) → IsLawful h → HasTwelveBitWords h → event_of op h ≡ None → makes_none op (flags_of h) ≡ true
none_made_makes_none ChanOp.Probe h lawful twelve is = refl
none_made_makes_none ChanOp.Activate h lawful twelve is = not_ready (ready_at ChanOp.Activate (flags_of h)) Event.Activate is
none_made_makes_none ChanOp.Disconnect h lawful twelve is = not_ready (ready_at ChanOp.Disconnect (flags_of h)) Event.Disconnect is
none_made_makes_none (ChanOp.Put w) h lawful twelve is = not_ready (ready_at (ChanOp.Put w) (flags_of h)) (Event.Put w) is
none_made_makes_none (ChanOp.Function w) h lawful twelve is = not_ready (ready_at (ChanOp.Function w) (flags_of h)) (Event.Function w) is
none_made_makes_none ChanOp.Take h lawful twelve is =
    not_full (ready_at ChanOp.Take (flags_of h)) (waiting h)
    (λ ready. full_register (flags_of h) (waiting h) h (lawful, twelve, refl, refl) ∙ (and_parts (flags_of h).active (flags_of h).full ready).1) is
