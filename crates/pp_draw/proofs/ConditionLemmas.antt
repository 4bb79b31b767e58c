-- Which phases are drawn: those under another look than the one before. The last that is drawn is
-- under the look of the last that came.
use Rattle.std.proofs.Common.{◌≡◌, ℕ, Bool, true, false, cond, List, [], ◌∷◌, ◌++◌, Option, None, Some, refl, sym, ap, ◌∙◌, arith}
use Rattle.std.specs.Prelude.{IsTrue}
use Rattle.std.specs.List.{last_or}
use Rattle.std.specs.Option.{option_map}
use Rattle.std.proofs.lemmas.Bool.{eq-eqb, eqb-true}
use Rattle.pp_draw.specs.Condition.{changes, continues, phases_from}
use Rattle.pp_draw.specs.DrawingLaw.{continues_from, look_in}
use Rattle.pp_draw.specs.declared.{condition.Condition.Condition, condition.Look.Look, condition.Phase.Phase}
use Rattle.pp_draw.specs.declared.condition.Condition.TheVariants.{Running, InBlock, HeldBy, Stopped, Faulted}
use Rattle.pp_draw.specs.declared.condition.Look.TheVariants.{Processor}

-- ---- a look that goes on is the same

pub same_on : (look next : Look) → continues look next ≡ true → look ≡ next
same_on (Processor Running) (Processor Running) h = refl
same_on (Processor InBlock) (Processor InBlock) h = refl
same_on (Processor (HeldBy c)) (Processor (HeldBy other)) h = ap (λ (n : ℕ). Processor (HeldBy n)) (sym (eqb-true other c h))
same_on (Processor Stopped) (Processor Stopped) h = refl
same_on (Processor Faulted) (Processor Faulted) h = refl
same_on look next h = absurd (cc)

-- ---- and that of a processor goes on

pub same_continues : (condition : Condition) → IsTrue (continues (Processor condition) (Processor condition))
same_continues (HeldBy c) = eq-eqb c c refl
same_continues condition = refl

-- ---- phases

last_after : (current came : Phase) (more : List Phase) → current.look ≡ came.look → option_map look_in (last_or (Some current) (changes came.look more)) ≡ option_map look_in (last_or (Some came) more)
last_after current came [] same = ap Some same
last_after current came (next ∷ more) same =
    by_test (continues came.look next.look) refl (λ on. last_after current next more (same ∙ same_on came.look next.look on)) (last_after next next more refl)
  where
    by_test : (b : Bool) → continues came.look next.look ≡ b
        → (continues came.look next.look ≡ true → option_map look_in (last_or (Some current) (changes next.look more)) ≡ option_map look_in (last_or (Some next) more))
        → option_map look_in (last_or (Some next) (changes next.look more)) ≡ option_map look_in (last_or (Some next) more)
        → option_map look_in (last_or (Some current) (cond b (changes next.look more) (next ∷ changes next.look more))) ≡ option_map look_in (last_or (Some next) more)
    by_test true on goes begins = goes on
    by_test false over goes begins = begins

pub last_is_drawn : (phases : List Phase) → option_map look_in (last_or None (phases_from None phases)) ≡ option_map look_in (last_or None phases)
last_is_drawn [] = refl
last_is_drawn (first ∷ more) = last_after first first more refl

-- what is drawn of a phase that comes after these
abbrev drawn_after : Option Phase → Phase → List Phase
drawn_after before next = cond (continues_from before next) [] (next ∷ [])

more_drawn : (came : Phase) (more : List Phase) (next : Phase) → changes came.look (more ++ next ∷ []) ≡ changes came.look more ++ drawn_after (last_or (Some came) more) next
more_drawn came [] next = refl
more_drawn came (n ∷ more) next = grind (arith, drawn_after, more_drawn n more next)

pub next_is_drawn : (phases : List Phase) (next : Phase) → phases_from None (phases ++ next ∷ []) ≡ phases_from None phases ++ drawn_after (last_or None phases) next
next_is_drawn [] next = refl
next_is_drawn (first ∷ more) next = ap (λ (ps : List Phase). first ∷ ps) (more_drawn first more next)
