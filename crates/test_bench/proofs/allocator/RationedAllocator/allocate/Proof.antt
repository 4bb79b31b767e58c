-- The request that is refused ends in an `Err`. Any other is put to the inner allocator, and has its answer. Assumes `Logic`.
use Rattle.std.proofs.Common.{◌≡◌, Bool, true, false, [], ◌∷◌, Ok, Err, refl, w64}
use mir.Syntax.{Args, Fn, a_type, dnil, dcons}
use mir.Val.{Val, vbool}
use mir.MapTy.{inst_fn}
use base.Fml.{ftrue, flft}
use prog.Memory.{size, align, capped}
use contract.BorrowLft.{◌⊑◌, ⊑_trans}
use contract.Monad.{fact}
use contract.Running.{tables}
use types.Kit.{‵, raw, ◌⊛◌, some, later, given, prop, at_ret, Sq, ◌$◌, ◌∵◌, !, qed, by, move, keep, use0, use1, use2, split, join, fsplit, fjoin, pick, learn, await}
use types.Part.{agg}
use types.Run.{stop, fld, addr, lit, no_more, and_then, first, branches, skips, exec, returns, returns_within, enter}
use types.ByLocal.{alloc_all, pass_all, free_all, look_at, get, through, sets, lands_as, env}
use denote.Exit.{yes}
use denote.RattleType.{owns}
use denote.Ref.{shr_vals}
use denote.RawPtr.{block_ptr}
use denote.Builtin.{usize, RefOf}
use denote.Memory.{hidden_shr}
use denote.Param.{bounded}
use denote.Plain.{uint_vals, uint_Tells}
use denote.Signature.{Slot, plain, types_at}
use denote.Steps.{heard, nothing}
use denote.Triple.Call.{calls_at}
use denote.Triple.Table.{framed}
use denote.Triple.Walked.{Stays, stay_dropped, walk_of, Goes-dropped}
use Rattle.std.proofs.VecSteps.Shapes.{after}
use Rattle.std.proofs.alloc.Calls.{Al, seen, token, Answer, answer_val, Answer-typed, Answer-Ok, Answer-err, Takes, at_takes, Answered, Takes-goes, Takes-gives, answers}
use Rattle.std.specs.Allocator.{block_if_ok}
use Rattle.std.proofs.raw_atomic.Walks.{proved, leaves}
use Rattle.test_bench.proofs.Handle.{Place, Ration, Handle, inner_of, ration_of, in_parts, Asks, at_ask, ask_goes, ask_tells}
use Rattle.test_bench.specs.contracts.allocator.RationedAllocator.allocate as f
use Rattle.test_bench.proofs.allocator.RationedAllocator.allocate.Statement.{statement}
use Rattle.test_bench.proofs.allocator.RationedAllocator.allocate.Code as code
use Rattle.test_bench.proofs.ration.Ration.refuses.Met.{met as asks}

pub allocate_spec : {M : Type 1} → statement M
allocate_spec 𝓤 𝓛 𝓜 𝓡 wired B laws g d dd met _ =
    let Z : Al = record { row = B; laws = laws; g = g; d = d; drops = dd } in
    let ended = f.ended B g d dd in
    let c = f.clauses B g d dd 𝓛 𝓜.mem 𝓡.returns in
    let stays : Stays ended.signature.params ended.kept = (stay_dropped _ yes, (stay_dropped _ yes, (stay_dropped _ yes, tt))) in
    let W = walk_of 𝓛 ended stays c in
    let 𝓣 = tables 𝓤 𝓛.H 𝓜 𝓡 𝓡.env in
    let framed_calls = framed 𝓤 𝓛.H 𝓜 𝓣 in
    let args : Args = bounded (a_type ∷ []) (B, tt) (dcons d (dcons dd dnil)) in
    let fn : Fn = inst_fn args code.function in
    let self : Slot 2 = RefOf (0 ∷ []) tt (plain (λ _. Handle Z)) (λ _. tt) in
    let request = Takes Z 𝓛 𝓜.mem 𝓡.returns in
    let question = Asks 𝓛 𝓜.mem 𝓡.returns in
    let number = Goes-dropped 𝓛 2 (plain (λ _. usize)) yes (λ κs x w. refl) in
    proved 𝓛 ended stays c 𝓜 𝓡 (Goes-dropped 𝓛 2 self yes (λ κs x w. refl), (number, (number, tt)))
    (f.Key.name args) fn (code.unfolded 𝓤 𝓛.H 𝓜 𝓡 wired (B, tt) d dd)
    (λ κs. (shr_vals, (uint_vals w64, (uint_vals w64, tt)))) (λ κs. ((λ r vs e. e.0), (uint_Tells w64, (uint_Tells w64, tt)))) (λ κs qs bounds a τ are.
    let κ = κs.0 in let q = qs.0 in let long = κs.1.0 in
    let p : Place = a.0.ref_ptr in let h = a.0.now in let bytes = a.1.0 in let al = a.1.1.0 in
    let y : W.Ghost = ((κs, qs, bounds, a, (shr_vals a.0, (uint_vals w64 bytes, (uint_vals w64 al, tt)))), τ) in
    let Asked : Type 0 = (capped (size τ) ≡ bytes) × (capped (align τ) ≡ al) in
    let passed : request.Ghost = at_takes Z 𝓛 𝓜.mem 𝓡.returns κ q (inner_of Z p) h.inner bytes al τ in
    let put : question.Ghost = at_ask 𝓛 𝓜.mem 𝓡.returns κ q (ration_of Z p) h.ration in
    let tokens = ‵ (flft long qs.1.0) ⊛ ‵ ftrue in
    -- the return, with an answer and the block that comes with it
    let ends : (v : Val) (r : Answer.Denot) → Sq 𝓛 (‵ (Answer.own_val r (v ∷ [])) ∷ ‵ (block_if_ok (token Z h.inner) τ r) ∷ ‵ (flft κ q) ∷ tokens ∷ []) (prop (W.post y v)) = λ v r.
    nothing ! $ nothing ! $ fjoin ! $ nothing ! $ fjoin ! $ nothing ! $ fjoin ! $ move ! (3 ∷ 4 ∷ []) $ join ! $
    by ! (leaves 𝓛 ended stays c y v r (tt, (tt, (tt, tt))) (tt, (tt, (tt, tt)))) in
    -- the return with an `Err`
    let refused : Sq 𝓛 (‵ (flft κ q) ∷ tokens ∷ []) (prop (W.post y (answer_val false 0 0))) =
    nothing ! $ use0 𝓛 (‵ (Answer.own_val (Err (record {})) (answer_val false 0 0 ∷ []))) (Answer-err 𝓛) $ ends (answer_val false 0 0) (Err (record {})) in
    qed 𝓛 (((‵ (flft κ q) ⊛ tokens) ⊛ ‵ (owns (types_at ended.signature.params κs) a y.0.4)) ∷ (raw (fact 𝓤 (long ⊑ B.lives)) ⊛ raw (fact 𝓤 Asked)) ∷ []) ∵
    move ! (1 ∷ []) $ split ! $ heard ! (long ⊑ B.lives) (λ outlived. heard ! Asked (λ asked.
    split ! $ split ! $ move ! (2 ∷ []) $ fsplit ! $ fsplit ! $ keep ! (1 ∷ 3 ∷ 4 ∷ []) $
    use1 𝓛 (‵ (seen Z κ (inner_of Z p) h.inner) ⊛ ‵ (hidden_shr Ration κ h.ration (ration_of Z p).0 (ration_of Z p).1)) (in_parts Z 𝓛 κ p h) $ split ! $ move ! (1 ∷ 2 ∷ []) $
    -- [the ration; the token of κ; the inner allocator; the other tokens]
    enter ! _ _ _ _ _ $ alloc_all ! (λ l. pass_all ! refl ((tt, tt), ((tt, record { fits = are.1.0.1 }), ((tt, record { fits = are.1.1.0.1 }), tt))) $
    sets ! (addr ! (through ! refl (fld ! refl (stop !)))) refl (tt, tt) $
    use2 𝓛 (raw (question.pre put)) (ask_goes 𝓛 𝓜.mem 𝓡.returns κ q (ration_of Z p) h.ration) $
    calls_at ! framed_calls question (asks 𝓤 𝓛 𝓜 𝓡 (code.calls-test_bench::ration::Ration::refuses 𝓡.env wired)) put (and_then ! (get ! refl) (no_more !)) (λ v.
    use1 𝓛 (later (some (λ (b : Bool). given (v ≡ vbool b) (‵ (flft κ q))))) (ask_tells 𝓛 𝓜.mem 𝓡.returns κ q (ration_of Z p) h.ration v) $ await ! tt $ pick ! (λ b. learn ! (λ e.
    lands_as ! e refl (tt, tt) $ move ! (0 ∷ 2 ∷ 1 ∷ []) $
    -- [the token of κ; the other tokens; the inner allocator]
    first ! $ branches ! (get ! refl)
    (λ this_one. sets ! (agg ! (no_more !)) refl (tt, tt) $ sets ! (agg ! (and_then ! (lit ! tt) (and_then ! (get ! refl) (no_more !)))) refl (Answer-typed false 0 0) $
    returns_within ! (W.post y) refl (look_at ! 0 refl) $ free_all ! refl $ keep ! (0 ∷ 1 ∷ []) $ refused)
    (λ another. skips ! $ exec ! 𝓣.C 𝓣.Λ (env fn.locals l) (after 3 fn.body) (at_ret _ (W.post y)) $
    sets ! (addr ! (through ! refl (fld ! refl (stop !)))) refl (tt, tt) $ move ! (2 ∷ 0 ∷ []) $
    use2 𝓛 (raw (request.pre passed)) (Takes-goes Z 𝓛 𝓜.mem 𝓡.returns κ q (inner_of Z p) h.inner (⊑_trans κ long B.lives bounds.0 outlived) bytes al τ asked.0 asked.1 are.1.0.1 are.1.1.0.1) $
    calls_at ! framed_calls request (met.allocate dd) passed (and_then ! (get ! refl) (and_then ! (get ! refl) (and_then ! (get ! refl) (no_more !)))) (λ u.
    use1 𝓛 (later (raw (Answered Z 𝓛 𝓜.mem 𝓡.returns h.inner τ u) ⊛ ‵ (flft κ q))) (Takes-gives Z 𝓛 𝓜.mem 𝓡.returns κ q (inner_of Z p) h.inner bytes al τ u) $ await ! tt $ split ! $
    answers Z ! 𝓜.mem 𝓡.returns h.inner τ u
    (λ b o is. fjoin ! $ lands_as ! is refl (Answer-typed true b o) $ returns ! (look_at ! 0 refl) $ free_all ! refl $
    use0 𝓛 (‵ (Answer.own_val (Ok (block_ptr b o)) (answer_val true b o ∷ []))) (Answer-Ok 𝓛 b o) $ ends (answer_val true b o) (Ok (block_ptr b o)))
    (λ is. lands_as ! is refl (Answer-typed false 0 0) $ returns ! (look_at ! 0 refl) $ free_all ! refl $ refused))))))))))
