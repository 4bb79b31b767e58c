-- Processors that stay as they are.
use Rattle.std.proofs.Common.{◌≡◌, ◌≢◌, ℕ, Bool, true, false, Option, Some, None, refl, sym, ap, ◌∙◌}
use Rattle.std.specs.Prelude.{◌==◌, IsNone, IsSome, is_some, not}
use Rattle.std.specs.Str.{bytes_eq}
use Rattle.std.proofs.lemmas.Bool.{and_parts, and_from, eq-eqb, eqb-true}
use Rattle.std.proofs.lemmas.Slice.Eq.{bytes_eq-Decides}
use Rattle.pp_processor.specs.Processor.{Processor, is_running}
use Rattle.pp_processor.specs.Block.{block_word}
use Rattle.pp_processor.specs.NeedAndEffect.{if_running, need, next_step, step_of}
use Rattle.pp_processor.specs.Positions.{is_same, position_of}
use Rattle.pp_processor.specs.Step.{need_of}
use Rattle.pp_processor.specs.declared.{block.Block.Block, block.BlockKind.BlockKind, need.Need.Need, pp_state.PpState.PpState}
use Rattle.pp_processor.specs.declared.block.BlockKind.TheVariants.{Input}
use Rattle.pp_processor.specs.declared.pp_state.PpState.TheVariants.{Running}
use Rattle.pp_processor.proofs.PositionLemmas.{position_same, same_itself}
use Rattle.pp_numbers.specs.declared.profile.Profile.{Profile}
use Rattle.pp_races.specs.Findings.{same_profile, stays_running}

profile_same : (one other : Profile) → same_profile one other ≡ true → one ≡ other
profile_same Profile.Ten Profile.Ten is = refl
profile_same Profile.Twenty Profile.Twenty is = refl
profile_same Profile.Ten Profile.Twenty is = absurd cc
profile_same Profile.Twenty Profile.Ten is = absurd cc

runs_on : (state : PpState) → is_running state ≡ true → state ≡ Running
runs_on Running is = refl
runs_on other is = absurd cc

no_local_block : (kind : BlockKind) (place : ℕ) (pp : Processor) → need_of (block_word kind place pp) ≡ Need.Local → ⊥
no_local_block (Input channel) place pp is = cc
no_local_block other place pp is = cc

-- a processor whose step needs nothing from outside is running, and in no block
local_state : (state : PpState) (pp : Processor) → pp.state ≡ state → need pp ≡ Need.Local → (pp.state ≡ Running) × (need_of (next_step pp) ≡ Need.Local)
unfolding need
local_state Running pp is e = (is, sym (ap (λ (s : PpState). if_running s (need_of (next_step pp)) Need.Nothing) is) ∙ e)
local_state other pp is e = (let bad : Need.Nothing ≡ Need.Local = sym (ap (λ (s : PpState). if_running s (need_of (next_step pp)) Need.Nothing) is) ∙ e in absurd (cc))

local_block : (b : Option Block) (pp : Processor) → pp.block ≡ b → need_of (next_step pp) ≡ Need.Local → pp.block ≡ None
local_block None pp is e = is
local_block (Some block) pp is e = absurd (no_local_block block.kind block.place pp (sym (ap (λ (b : Option Block). need_of (step_of b pp)) is) ∙ e))

none_is : (b : Option Block) → is_some b ≡ false → b ≡ None
none_is None is = refl
none_is (Some block) is = absurd cc

turned : (pp after : Processor) → need pp ≡ Need.Local → stays_running pp after ≡ true → after ≡ pp
turned pp after e is =
    let p1 = and_parts (same_profile after.profile pp.profile) _ is in
    let p2 = and_parts (is_running after.state) _ p1.1 in
    let p3 = and_parts (after.a == pp.a) _ p2.1 in
    let p4 = and_parts (is_same (position_of after) (position_of pp)) (bytes_eq after.memory pp.memory) p3.1 in
    let place = position_same (position_of after) (position_of pp) p4.0 in
    let runs = local_state pp.state pp refl e in
    let no_block : pp.block ≡ None = local_block pp.block pp refl runs.1 in
    let still_none : after.block ≡ None = none_is after.block (place.1 ∙ ap is_some no_block) in
    let memory : after.memory ≡ pp.memory = (bytes_eq-Decides after.memory pp.memory).0 p4.1 in
    ap (λ x. record { profile = x; memory = after.memory; a = after.a; p = after.p; state = after.state; block = after.block }) (profile_same after.profile pp.profile p1.0)
    ∙ ap (λ x. record { profile = pp.profile; memory = x; a = after.a; p = after.p; state = after.state; block = after.block }) memory
    ∙ ap (λ x. record { profile = pp.profile; memory = pp.memory; a = x; p = after.p; state = after.state; block = after.block }) (eqb-true after.a pp.a p3.0)
    ∙ ap (λ x. record { profile = pp.profile; memory = pp.memory; a = pp.a; p = x; state = after.state; block = after.block }) place.0
    ∙ ap (λ x. record { profile = pp.profile; memory = pp.memory; a = pp.a; p = pp.p; state = x; block = after.block }) (runs_on after.state p2.0 ∙ sym runs.0)
    ∙ ap (λ x. record { profile = pp.profile; memory = pp.memory; a = pp.a; p = pp.p; state = pp.state; block = x }) (still_none ∙ sym no_block)

profile_itself : (one : Profile) → same_profile one one ≡ true
profile_itself Profile.Ten = refl
profile_itself Profile.Twenty = refl

stays_itself : (pp : Processor) → need pp ≡ Need.Local → stays_running pp pp ≡ true
stays_itself pp e =
    and_from _ _ (profile_itself pp.profile)
    (and_from _ _ (ap is_running (local_state pp.state pp refl e).0)
    (and_from _ _ (eq-eqb pp.a pp.a refl)
    (and_from _ _ (same_itself (position_of pp)) ((bytes_eq-Decides pp.memory pp.memory).1 refl))))

not_true : (b : Bool) → (b ≡ true → ⊥) → b ≡ false
not_true true apart = absurd (apart refl)
not_true false apart = refl

-- a comparison of all of two processors is the test
pub tested : {X : Type 0} (difference : Option X) (none : Bool) (pp after : Processor) → is_some difference ≡ not none → need pp ≡ Need.Local
    → (IsNone difference → after ≡ pp) → (IsSome difference → after ≢ pp) → none ≡ stays_running pp after
tested None true pp after is e same differ = sym (ap (λ x. stays_running pp x) (same refl) ∙ stays_itself pp e)
tested (Some x) false pp after is e same differ = sym (not_true (stays_running pp after) (λ is. differ refl (turned pp after e is)))
tested difference none pp after is e same differ = absurd cc
