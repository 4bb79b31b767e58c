-- The block goes back to the inner allocator, with the right to free it. Assumes `Logic`.
use Rattle.std.proofs.Common.{◌≡◌, List, [], ◌∷◌, refl, w64}
use mir.Syntax.{Args, Fn, a_type, dnil, dcons}
use mir.Val.{Val, vunit}
use mir.MapTy.{inst_fn}
use base.Logic.{fst∗, never}
use base.Fml.{ftrue, flft}
use prog.Memory.{size, align, capped}
use prog.Wp.{WpFn}
use contract.BorrowLft.{◌⊑◌, ⊑_trans}
use contract.Monad.{fact}
use contract.Running.{tables}
use types.Logic.{sem}
use types.Kit.{‵, raw, ◌⊛◌, later, given, prop, ◌$◌, ◌∵◌, !, qed, by, move, keep, use1, split, split3, join, fsplit, fjoin, feq_i, learn, await, regoal}
use types.Run.{stop, fld, addr, unit_lit, of_opd, no_more, and_then, returns, enter}
use types.ByLocal.{alloc_all, pass_all, free_all, look_at, get, through, sets, lands_as}
use denote.Exit.{yes}
use denote.RattleType.{owns}
use denote.Ref.{shr_vals}
use denote.RawPtr.{Ptr, RawPtr, block_ptr, null_ptr, in_a_block, rawptr_vals, rawptr_Tells}
use denote.Builtin.{usize, RefOf}
use denote.Memory.{hidden_shr}
use denote.Param.{bounded}
use denote.Plain.{uint_vals, uint_Tells}
use denote.Signature.{Slot, plain, types_at}
use denote.Steps.{heard, nothing}
use denote.Triple.Call.{calls_at}
use denote.Triple.Table.{framed}
use denote.Triple.Walked.{Stays, stay_dropped, walk_of, Goes-dropped}
use Rattle.std.specs.Allocator.{owned_block}
use Rattle.std.proofs.alloc.Calls.{Al, seen, token, Gives, at_gives, Gives-goes, Gives-Gives}
use Rattle.std.proofs.raw_atomic.Walks.{proved, leaves}
use Rattle.test_bench.proofs.Handle.{Place, Ration, Handle, inner_of, ration_of, in_parts}
use Rattle.test_bench.specs.contracts.allocator.RationedAllocator.deallocate as f
use Rattle.test_bench.proofs.allocator.RationedAllocator.deallocate.Statement.{statement}
use Rattle.test_bench.proofs.allocator.RationedAllocator.deallocate.Code as code

pub deallocate_spec : {M : Type 1} → statement M
deallocate_spec 𝓤 𝓛 𝓜 𝓡 wired B laws g d dd met _ =
    let Z : Al = record { row = B; laws = laws; g = g; d = d; drops = dd } in
    let ended = f.ended B g d dd in
    let c = f.clauses B g d dd 𝓛 𝓜.mem 𝓡.returns in
    let stays : Stays ended.signature.params ended.kept = (stay_dropped _ yes, (stay_dropped _ yes, (stay_dropped _ yes, (stay_dropped _ yes, tt)))) in
    let W = walk_of 𝓛 ended stays c in
    let 𝓣 = tables 𝓤 𝓛.H 𝓜 𝓡 𝓡.env in
    let args : Args = bounded (a_type ∷ []) (B, tt) (dcons d (dcons dd dnil)) in
    let fn : Fn = inst_fn args code.function in
    let self : Slot 2 = RefOf (0 ∷ []) tt (plain (λ _. Handle Z)) (λ _. tt) in
    let hand_back = Gives Z 𝓛 𝓜.mem 𝓡.returns in
    let pointer = Goes-dropped 𝓛 2 (plain (λ _. RawPtr)) yes (λ κs x w. refl) in
    let number = Goes-dropped 𝓛 2 (plain (λ _. usize)) yes (λ κs x w. refl) in
    proved 𝓛 ended stays c 𝓜 𝓡 (Goes-dropped 𝓛 2 self yes (λ κs x w. refl), (pointer, (number, (number, tt))))
    (f.Key.name args) fn (code.unfolded 𝓤 𝓛.H 𝓜 𝓡 wired (B, tt) d dd)
    (λ κs. (shr_vals, (rawptr_vals, (uint_vals w64, (uint_vals w64, tt))))) (λ κs. ((λ r vs e. e.0), (rawptr_Tells, (uint_Tells w64, (uint_Tells w64, tt))))) (λ κs qs bounds a τ are.
    let κ = κs.0 in let q = qs.0 in let long = κs.1.0 in
    let p : Place = a.0.ref_ptr in let h = a.0.now in let bytes = a.1.1.0 in let al = a.1.1.1.0 in
    let y : Ptr → W.Ghost = λ x. ((κs, qs, bounds, (a.0, (x, a.1.1)), (shr_vals a.0, (rawptr_vals x, (uint_vals w64 bytes, (uint_vals w64 al, tt))))), τ) in
    let Asked : Type 0 = (capped (size τ) ≡ bytes) × (capped (align τ) ≡ al) in
    let tokens = ‵ (flft long qs.1.0) ⊛ ‵ ftrue in
    qed 𝓛 (((‵ (flft κ q) ⊛ tokens) ⊛ ‵ (owns (types_at ended.signature.params κs) a (y a.1.0).0.4)) ∷ (raw (fact 𝓤 (long ⊑ B.lives)) ⊛ raw (fact 𝓤 Asked) ⊛ ‵ (owned_block (token Z h.inner) τ a.1.0)) ∷ []) ∵
    move ! (1 ∷ []) $ split3 ! $ heard ! (long ⊑ B.lives) (λ outlived. heard ! Asked (λ asked.
    in_a_block ! a.1.0 (owned_block (token Z h.inner) τ) (fst∗ 𝓤 (never 𝓤) (sem 𝓛 (token Z h.inner τ null_ptr))) (λ b o e.
    let block = block_ptr b o in
    let passed : hand_back.Ghost = at_gives Z 𝓛 𝓜.mem 𝓡.returns κ q (inner_of Z p) h.inner b o bytes al τ in
    regoal ! (λ (r : Ptr). prop (WpFn 𝓤 𝓛.H 𝓣.C 𝓣.Λ fn (W.args (y r)) (W.post (y r)))) e refl $
    move ! (1 ∷ []) $ split ! $ split ! $ move ! (2 ∷ []) $ fsplit ! $ fsplit ! $ keep ! (1 ∷ 3 ∷ 4 ∷ 5 ∷ []) $
    use1 𝓛 (‵ (seen Z κ (inner_of Z p) h.inner) ⊛ ‵ (hidden_shr Ration κ h.ration (ration_of Z p).0 (ration_of Z p).1)) (in_parts Z 𝓛 κ p h) $ split ! $ keep ! (0 ∷ 2 ∷ 3 ∷ 4 ∷ []) $
    -- [the inner allocator; the token of κ; the other tokens; the block]
    join ! $ move ! (2 ∷ []) $ fsplit ! $ move ! (1 ∷ 2 ∷ []) $ join ! $ move ! (1 ∷ 0 ∷ []) $ join ! $
    enter ! _ _ _ _ _ $ alloc_all ! (λ l. pass_all ! refl ((tt, tt), ((tt, tt), ((tt, record { fits = are.1.1.0.1 }), ((tt, record { fits = are.1.1.1.0.1 }), tt)))) $
    sets ! (addr ! (through ! refl (fld ! refl (stop !)))) refl (tt, tt) $
    use1 𝓛 (raw (hand_back.pre passed)) (Gives-goes Z 𝓛 𝓜.mem 𝓡.returns κ q (inner_of Z p) h.inner (⊑_trans κ long B.lives bounds.0 outlived) b o bytes al τ asked.0 asked.1 are.1.1.0.1 are.1.1.1.0.1) $
    calls_at ! (framed 𝓤 𝓛.H 𝓜 𝓣) hand_back (met.deallocate dd) passed (and_then ! (get ! refl) (and_then ! (get ! refl) (and_then ! (get ! refl) (and_then ! (get ! refl) (no_more !))))) (λ v.
    use1 𝓛 (later (given (v ≡ vunit) (‵ (flft κ q)))) (Gives-Gives Z 𝓛 𝓜.mem 𝓡.returns κ q (inner_of Z p) h.inner b o bytes al τ v) $ await ! tt $ learn ! (λ is.
    lands_as ! is refl (tt, tt) $ sets ! (of_opd ! (unit_lit !)) refl (tt, tt) $ returns ! (look_at ! 0 refl) $ free_all ! refl $
    nothing ! $ feq_i ! (List Val) (vunit ∷ []) (vunit ∷ []) refl $
    nothing ! $ nothing ! $ fjoin ! $ nothing ! $ fjoin ! $ nothing ! $ fjoin ! $ nothing ! $ fjoin ! $ move ! (3 ∷ 4 ∷ []) $ join ! $
    by ! (leaves 𝓛 ended stays c (y block) vunit tt (tt, (tt, (tt, (tt, tt)))) (tt, (tt, (tt, (tt, tt))))))))))))
