-- A `&` to the handle as the `&`s to its two parts, and the question that each request puts to the ration. Assumes `Logic`.
use Rattle.std.proofs.Common.{◌≡◌, ℕ, ◌+◌, Bool, List, [], ◌∷◌, refl, ap}
use seplogic.Ra.Ura.{Ura}
use mir.Val.{Val, vbool, vptr}
use base.Logic.{SProp, ent, sep, ex, guard, id⊢}
use base.Fml.{Lft, Share, ftrue, fsep, flft}
use prog.Memory.{Memory, size, align, up}
use prog.Routine.{Routine}
use types.Logic.{Logic, sem}
use contract.Monad.{Fun}
use types.Kit.{‵, raw, ◌⊛◌, some, later, ◌$◌, ◌∵◌, !, qed, move, keep, use1, split, join, pick, fsplit, fjoin, feq_i, feq_l, check, show, await, updating, now as at_once, done}
use denote.RattleType.{RattleType}
use denote.Memory.{hidden_shr}
use denote.Opens.{unhide}
use denote.Param.{param}
use denote.Builtin.{bool}
use denote.Steps.{nothing, only}
use denote.Triple.Statement.{Contract}
use denote.Triple.Spec.{triple_of}
use Rattle.std.proofs.alloc.Calls.{Al, α, seen}
use Rattle.test_bench.specs.contracts.allocator.Rationed as rationed
use Rattle.test_bench.specs.contracts.ration.Ration as ration
use Rattle.test_bench.specs.contracts.ration.Ration.refuses as refuses

abbrev pub Place : Type 0
Place = ℕ × ℕ

abbrev pub Ration : RattleType
Ration = ration.the_row

module _ (Z : Al) where
  abbrev pub Handle : RattleType
  Handle = rationed.the_row (param 0 Z.row)

  abbrev pub inner_of : Place → Place
  inner_of p = (p.0, p.1 + up (align (α Z)) 0)

  abbrev pub ration_of : Place → Place
  ration_of p = (p.0, p.1 + up 8 (up (align (α Z)) 0 + size (α Z)))

  module _ {M : Type 1} {𝓤 : Ura M} (𝓛 : Logic 𝓤) where
    pub in_parts : (κ : Lft) (p : Place) (h : Handle.Denot)
        → ent 𝓤 (sem 𝓛 (hidden_shr Handle κ h p.0 p.1)) (sep 𝓤 (sem 𝓛 (seen Z κ (inner_of p) h.inner)) (sem 𝓛 (hidden_shr Ration κ h.ration (ration_of p).0 (ration_of p).1)))
    in_parts κ p h =
        qed 𝓛 (‵ (hidden_shr Handle κ h p.0 p.1) ∷ []) ∵ unhide ! $ fsplit ! $ fsplit ! $ move ! (1 ∷ []) $ fsplit ! $ keep ! (2 ∷ 0 ∷ []) $ done !

module _ {M : Type 1} {𝓤 : Ura M} (𝓛 : Logic 𝓤) (at_mem : Memory → SProp 𝓤) (run : Routine → Fun 𝓤) where
  open 𝓛 use {H, A}

  abbrev pub Asks : Contract 𝓤
  Asks = triple_of 𝓛 refuses.signature (refuses.spec 𝓛 at_mem run)

  module _ (κ : Lft) (q : Share) (p : Place) (x : Ration.Denot) where
    abbrev pub at_ask : Asks.Ghost
    at_ask = (((κ, tt), (q, tt), tt, (record { ref_ptr = p; now = x }, tt), (vptr p.0 p.1 ∷ [], tt)), tt)

    -- what the machine value says, with the token back
    abbrev pub Told : Val → Bool → SProp 𝓤
    Told v b = guard 𝓤 (v ≡ vbool b) (A.lft κ q)

    pub ask_goes : ent 𝓤 (sep 𝓤 (sem 𝓛 (hidden_shr Ration κ x p.0 p.1)) (A.lft κ q)) (Asks.pre at_ask)
    ask_goes =
        qed 𝓛 (‵ (hidden_shr Ration κ x p.0 p.1) ∷ ‵ (flft κ q) ∷ []) ∵
        feq_i ! (List Val) (vptr p.0 p.1 ∷ []) (vptr p.0 p.1 ∷ []) refl $ fjoin ! $ nothing ! $ move ! (1 ∷ 0 ∷ []) $ fjoin ! $
        nothing ! $ move ! (2 ∷ 0 ∷ []) $ join ! $ join ! $ nothing ! $ move ! (1 ∷ 0 ∷ []) $ join ! $ done !

    pub ask_tells : (v : Val) → ent 𝓤 (Asks.post at_ask v) (H.⇛ (ex 𝓤 (Told v)))
    ask_tells v =
        qed 𝓛 (raw (Asks.post at_ask v) ∷ []) ∵ updating ! $
        use1 𝓛 (later (some (λ (b : Bool). ((‵ (flft κ q) ⊛ ‵ ftrue) ⊛ ‵ (bool.own_val b (v ∷ []))) ⊛ some (λ (ws : Unit {0} × Unit {0}). ‵ (fsep ftrue ftrue) ⊛ ‵ ftrue)))) (id⊢ 𝓤 _) $
        await ! tt $ pick ! (λ b. split ! $ split ! $ move ! (1 ∷ []) $ feq_l ! (λ e. split ! $ keep ! (0 ∷ []) $ at_once ! $ show ! (Told v) b $ check ! (ap only e) $ done !))
