-- What `take` gave is handed out as room for the type that was asked. Assumes `Logic`.
use Rattle.std.proofs.Common.{◌≡◌, ℕ, ◌^◌, ◌<◌, ◌≤◌, true, false, IfSome, Ok, Err, [], ◌∷◌, refl, sym, ◌∙◌, arith, lit<, w64}
use mir.Syntax.{Fn}
use base.Logic.{id⊢}
use base.Fml.{froom, fsep}
use prog.Capped.{capped_is, capped_small}
use prog.Memory.{size, align, capped}
use prog.Wp.{Wp, after_seq}
use contract.Monad.{fact}
use contract.Running.{tables}
use types.Kit.{‵, raw, ◌⊛◌, some, later, at_ret, any_q, post, ◌$◌, ◌∵◌, !, qed, by, move, drop, use0, use1, split, join, fjoin, pick, rewrite, await}
use types.Match.{vrt, in_variant}
use types.Part.{whole, sub, agg}
use types.Run.{stop, fld, lit, of_opd, no_more, and_then, first, switches_on, exec, returns, enter}
use types.ByLocal.{alloc_all, pass_all, free_all, look_at, get, get_in, get_tag, sets, sets_last, lands_as, env}
use denote.Builtin.{usize, RefOf}
use denote.Exit.{yes}
use denote.Plain.{uint_vals, uint_Tells}
use denote.RattleType.{owns}
use denote.RawPtr.{block_ptr}
use denote.Ref.{shr_vals}
use denote.Signature.{Slot, plain, types_at}
use denote.Steps.{heard, nothing}
use denote.Triple.Call.{calls_at}
use denote.Triple.Clauses.{lasts}
use denote.Triple.Entry.{alive}
use denote.Triple.Spec.{triple_of}
use denote.Triple.Table.{framed}
use denote.Triple.Walked.{Stays, walk_of, stay_dropped, Goes-dropped}
use Rattle.std.proofs.alloc.Calls.{Answer, answer_val, Answer-Ok, Answer-err}
use Rattle.std.proofs.raw_atomic.Walks.{proved, leaves}
use Rattle.core.proofs.alloc.Shapes.{after, head, arm_body}
use Rattle.fixed_arena.specs.Units.{whole_block_token}
use Rattle.fixed_arena.specs.declared.memory.Memory.{Memory}
use Rattle.fixed_arena.specs.contracts.slot.Slot as A
use Rattle.fixed_arena.specs.contracts.slot.Slot.take as g
use Rattle.fixed_arena.proofs.slot.Slot.take.Met.{met}
use Rattle.fixed_arena.proofs.Blocks.{Taken, taken, block_of_bytes}
use Rattle.fixed_arena.specs.contracts.slot.SlotAllocator.allocate as f
use Rattle.fixed_arena.proofs.slot.SlotAllocator.allocate.Statement.{statement}
use Rattle.fixed_arena.proofs.slot.SlotAllocator.allocate.Code as code

abbrev stayed : Stays f.ended.signature.params f.ended.kept
stayed = (stay_dropped _ yes, (stay_dropped _ yes, (stay_dropped _ yes, tt)))

pub allocate_spec : {M : Type 1} → statement M
allocate_spec 𝓤 𝓛 𝓜 𝓡 wired =
    let c = f.clauses 𝓛 𝓜.mem 𝓡.returns in
    let W = walk_of 𝓛 f.ended stayed c in
    let 𝓣 = tables 𝓤 𝓛.H 𝓜 𝓡 𝓡.env in
    let fn : Fn = code.function in
    let self : Slot 1 = RefOf (0 ∷ []) tt (plain (λ _. A.the_row)) (λ _. tt) in
    let number = Goes-dropped 𝓛 1 (plain (λ _. usize)) yes (λ κs x w. refl) in
    proved 𝓛 f.ended stayed c 𝓜 𝓡 (Goes-dropped 𝓛 1 self yes (λ κs x w. refl), (number, (number, tt)))
    f.Key.name fn (code.unfolded 𝓤 𝓛.H 𝓜 𝓡 wired)
    (λ κs. (shr_vals, (uint_vals w64, (uint_vals w64, tt)))) (λ κs. ((λ r vs e. e.0), (uint_Tells w64, (uint_Tells w64, tt)))) (λ κs qs bounds a τ are.
    let n = a.1.0 in let al = a.1.1.0 in
    let y : W.Ghost = ((κs, qs, bounds, a, (shr_vals a.0, (uint_vals w64 n, (uint_vals w64 al, tt)))), τ) in
    let G = triple_of 𝓛 g.signature (g.spec 𝓛 𝓜.mem 𝓡.returns) in
    let z : G.Ghost = (y.0, tt) in
    let Asked : Type 0 = (capped (size τ) ≡ n) × (capped (align τ) ≡ al) in
    let Fits = λ (m : Memory). (m.size ≡ a.0.now.size) × (n ≤ m.size) × (al ≤ 16) in
    qed 𝓛 ((raw (alive 𝓛 f.signature κs qs) ⊛ ‵ (owns (types_at f.signature.params κs) a y.0.4)) ∷ raw (fact 𝓤 Asked) ∷ []) ∵
    move ! (1 ∷ []) $ heard ! Asked (λ asked. nothing ! $ move ! (1 ∷ 0 ∷ []) $ join ! $ use1 𝓛 (raw (G.pre z)) (id⊢ 𝓤 _) $
    enter ! _ _ _ _ _ $ alloc_all ! (λ l. pass_all ! refl ((tt, tt), ((tt, record { fits = are.1.0.1 }), ((tt, record { fits = are.1.1.0.1 }), tt))) $
    let E = env fn.locals l in
    let ends = post 𝓤 𝓛.H (at_ret E (W.post y)) in
    -- after an arm of the `match` the two statements below it run
    let joins = any_q (after_seq 𝓤 𝓛.H (Wp 𝓤 𝓛.H 𝓣.C 𝓣.Λ E (after 2 fn.body) ends) ends) in
    calls_at ! (framed 𝓤 𝓛.H 𝓜 𝓣) G (met 𝓤 𝓛 𝓜 𝓡 (code.calls-fixed_arena::slot::Slot::take 𝓡.env wired)) z (and_then ! (get ! refl) (and_then ! (get ! refl) (and_then ! (get ! refl) (no_more !)))) (λ v.
    use1 𝓛 (later (some (λ (x : Taken.Denot). (raw (alive 𝓛 f.signature κs qs) ⊛ ‵ (Taken.own_val x (v ∷ []))) ⊛ some (λ (ws : Unit {0} × (Unit {0} × (Unit {0} × Unit {0}))). ‵ (lasts g.ended κs a ws) ⊛ raw (fact 𝓤 (IfSome x Fits)))))) (id⊢ 𝓤 _) $
    await ! tt $ pick ! (λ x. split ! $ move ! (1 ∷ []) $ pick ! (λ ws. split ! $ drop ! $ heard ! (IfSome x Fits) (λ told. split ! $ move ! (1 ∷ []) $
    taken ! Fits x v told
    (λ m b o fits is.
    let small : size τ < 2 ^ 63 = capped_small (size τ) (omega (arith, asked.0, fits.1, m.fits.1)) in
    let same : size τ ≡ n = sym (capped_is (size τ) (omega (arith, small))) ∙ asked.0 in
    use1 𝓛 (‵ (fsep (froom τ b o) (whole_block_token m.size τ (block_ptr b o)))) (block_of_bytes 𝓛 b o τ m.size m.fits.0 (omega (arith, same, fits.1))) $
    rewrite ! 0 (λ (k : ℕ). ‵ (fsep (froom τ b o) (whole_block_token k τ (block_ptr b o)))) fits.0 refl $
    lands_as ! is refl (tt, (record { fits = lit< tt }, ((tt, (record { fits = omega (arith, m.fits.1) }, tt)), tt))) $
    first ! $ switches_on ! (get_tag ! (vrt ! refl (fld ! refl (stop !))) (whole !)) $ exec ! 𝓣.C 𝓣.Λ E (arm_body 0 (head (after 1 fn.body))) joins $
    sets ! (of_opd ! (get_in ! (vrt ! refl (fld ! refl (fld ! refl (stop !)))) (sub ! 0 refl (in_variant ! 1 0 refl refl (whole !))))) refl (tt, tt) $
    sets_last ! (agg ! (and_then ! (lit ! tt) (and_then ! (get ! refl) (no_more !)))) refl (tt, (record { fits = lit< tt }, (tt, tt))) $
    exec ! 𝓣.C 𝓣.Λ E (after 2 fn.body) (at_ret E (W.post y)) $
    sets ! (of_opd ! (get ! refl)) refl (tt, (record { fits = lit< tt }, (tt, tt))) $
    returns ! (look_at ! 0 refl) $ free_all ! refl $
    use0 𝓛 (‵ (Answer.own_val (Ok (block_ptr b o)) (answer_val true b o ∷ []))) (Answer-Ok 𝓛 b o) $
    nothing ! $ nothing ! $ fjoin ! $ nothing ! $ fjoin ! $ nothing ! $ fjoin ! $ move ! (3 ∷ 0 ∷ 1 ∷ 2 ∷ []) $
    by ! (leaves 𝓛 f.ended stayed c y (answer_val true b o) (Ok (block_ptr b o)) (tt, (tt, (tt, tt))) (tt, (tt, (tt, tt)))))
    (λ is. lands_as ! is refl (tt, (record { fits = lit< tt }, tt)) $
    first ! $ switches_on ! (get_tag ! (vrt ! refl (fld ! refl (stop !))) (whole !)) $ exec ! 𝓣.C 𝓣.Λ E (arm_body 1 (head (after 1 fn.body))) joins $
    sets ! (agg ! (no_more !)) refl (tt, tt) $
    sets_last ! (agg ! (and_then ! (lit ! tt) (and_then ! (get ! refl) (no_more !)))) refl (tt, (record { fits = lit< tt }, (tt, tt))) $
    exec ! 𝓣.C 𝓣.Λ E (after 2 fn.body) (at_ret E (W.post y)) $
    sets ! (of_opd ! (get ! refl)) refl (tt, (record { fits = lit< tt }, (tt, tt))) $
    returns ! (look_at ! 0 refl) $ free_all ! refl $ nothing ! $
    use0 𝓛 (‵ (Answer.own_val (Err (record {})) (answer_val false 0 0 ∷ []))) (Answer-err 𝓛) $
    nothing ! $ nothing ! $ fjoin ! $ nothing ! $ fjoin ! $ nothing ! $ fjoin ! $ move ! (3 ∷ 0 ∷ 1 ∷ 2 ∷ []) $
    by ! (leaves 𝓛 f.ended stayed c y (answer_val false 0 0) (Err (record {})) (tt, (tt, (tt, tt))) (tt, (tt, (tt, tt))))))))))))
