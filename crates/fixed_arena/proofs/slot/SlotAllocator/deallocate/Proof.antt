-- The room and its token are made the whole memory again, and the slot has it back. Assumes `Logic`.
use Rattle.std.proofs.Common.{◌≡◌, ℕ, ◌^◌, ◌<◌, List, [], ◌∷◌, refl, ap, ◌∙◌, arith, w64}
use mir.Syntax.{Fn}
use mir.Val.{Val, vint, vptr, vunit}
use base.Logic.{id⊢, apply∗}
use base.Fml.{ftrue}
use prog.Memory.{size, align, capped}
use prog.Wp.{WpFn}
use contract.Monad.{fact}
use contract.Running.{tables}
use types.Logic.{sem}
use types.Kit.{‵, raw, ◌⊛◌, some, later, prop, ◌$◌, ◌∵◌, !, qed, by, move, drop, use1, use2, split, split3, join, pick, regoal, fjoin, feq_i, feq_l, fsplit, keep, await}
use types.Part.{agg}
use types.Run.{unit_lit, of_opd, no_more, and_then, returns, enter}
use types.ByLocal.{alloc_all, pass_all, free_all, look_at, get, sets, lands_as}
use denote.Builtin.{usize, unit, RefOf}
use denote.Exit.{yes}
use denote.Opens.{shr_dup}
use denote.Plain.{uint_vals, uint_Tells}
use denote.RattleType.{owns}
use denote.RawPtr.{Ptr, RawPtr, ptr_val, room_for, in_a_block, rawptr_vals, rawptr_Tells}
use denote.Ref.{shr_vals}
use denote.Signature.{Slot, plain, types_at}
use denote.Steps.{heard, nothing, only}
use denote.Triple.Call.{calls_at}
use denote.Triple.Clauses.{lasts}
use denote.Triple.Entry.{alive}
use denote.Triple.Spec.{triple_of}
use denote.Triple.Table.{framed}
use denote.Triple.Walked.{Stays, walk_of, stay_dropped, Goes-dropped}
use Rattle.std.proofs.raw_atomic.Walks.{proved, leaves}
use Rattle.fixed_arena.specs.Units.{bytes_at, whole_block_token}
use Rattle.fixed_arena.specs.contracts.memory.Memory as R
use Rattle.fixed_arena.specs.contracts.slot.Slot as A
use Rattle.fixed_arena.proofs.slot.Slot.TheLaws as slot_laws
use Rattle.fixed_arena.specs.contracts.slot.Slot.size as sizer
use Rattle.fixed_arena.proofs.slot.Slot.size.Met.{met as tells_size}
use Rattle.fixed_arena.specs.contracts.slot.Slot.put as g
use Rattle.fixed_arena.proofs.slot.Slot.put.Met.{met as puts}
use Rattle.fixed_arena.proofs.Blocks.{memory_at, memory_val, owns_bytes}
use Rattle.fixed_arena.specs.contracts.slot.SlotAllocator.deallocate as f
use Rattle.fixed_arena.proofs.slot.SlotAllocator.deallocate.Statement.{statement}
use Rattle.fixed_arena.proofs.slot.SlotAllocator.deallocate.Code as code

abbrev stayed : Stays f.ended.signature.params f.ended.kept
stayed = (stay_dropped _ yes, (stay_dropped _ yes, (stay_dropped _ yes, (stay_dropped _ yes, tt))))

pub deallocate_spec : {M : Type 1} → statement M
deallocate_spec 𝓤 𝓛 𝓜 𝓡 wired =
    let c = f.clauses 𝓛 𝓜.mem 𝓡.returns in
    let W = walk_of 𝓛 f.ended stayed c in
    let 𝓣 = tables 𝓤 𝓛.H 𝓜 𝓡 𝓡.env in
    let fn : Fn = code.function in
    let self : Slot 1 = RefOf (0 ∷ []) tt (plain (λ _. A.the_row)) (λ _. tt) in
    let number = Goes-dropped 𝓛 1 (plain (λ _. usize)) yes (λ κs x w. refl) in
    let pointer = Goes-dropped 𝓛 1 (plain (λ _. RawPtr)) yes (λ κs x w. refl) in
    proved 𝓛 f.ended stayed c 𝓜 𝓡 (Goes-dropped 𝓛 1 self yes (λ κs x w. refl), (pointer, (number, (number, tt))))
    f.Key.name fn (code.unfolded 𝓤 𝓛.H 𝓜 𝓡 wired)
    (λ κs. (shr_vals, (rawptr_vals, (uint_vals w64, (uint_vals w64, tt))))) (λ κs. ((λ r vs e. e.0), (rawptr_Tells, (uint_Tells w64, (uint_Tells w64, tt))))) (λ κs qs bounds a τ are.
    let p = a.1.0 in let n = a.1.1.0 in let al = a.1.1.1.0 in
    let k = a.0.now.size in
    let whole = a.0.now.fits in
    let me : Val = vptr a.0.ref_ptr.0 a.0.ref_ptr.1 in
    let y : W.Ghost = ((κs, qs, bounds, a, (shr_vals a.0, (rawptr_vals p, (uint_vals w64 n, (uint_vals w64 al, tt))))), τ) in
    let T = triple_of 𝓛 sizer.signature (sizer.spec 𝓛 𝓜.mem 𝓡.returns) in
    let t : T.Ghost = ((κs, qs, bounds, (a.0, tt), (me ∷ [], tt)), tt) in
    let G = triple_of 𝓛 g.signature (g.spec 𝓛 𝓜.mem 𝓡.returns) in
    let Asked : Type 0 = (capped (size τ) ≡ n) × (capped (align τ) ≡ al) in
    qed 𝓛 ((raw (alive 𝓛 f.signature κs qs) ⊛ ‵ (owns (types_at f.signature.params κs) a y.0.4)) ∷ (raw (fact 𝓤 Asked) ⊛ ‵ (room_for τ p) ⊛ ‵ (whole_block_token k τ p)) ∷ []) ∵
    move ! (1 ∷ []) $ split3 ! $ drop ! $
    use2 𝓛 (‵ (bytes_at p k)) (apply∗ 𝓤 (sem 𝓛 (room_for τ p)) (sem 𝓛 (bytes_at p k))) $
    in_a_block ! p (λ q. bytes_at q k) (id⊢ 𝓤 _) (λ b o e.
    regoal ! (λ (q : Ptr). prop (WpFn 𝓤 𝓛.H 𝓣.C 𝓣.Λ fn (me ∷ ptr_val q ∷ vint w64 n ∷ vint w64 al ∷ []) (W.post y))) e refl $
    -- [the bytes; the tokens and the parameters]
    move ! (1 ∷ []) $ split ! $ move ! (1 ∷ []) $ fsplit ! $ fsplit ! $ drop ! $
    shr_dup ! A.the_row slot_laws.the_row_laws.shr_laws a.0.now a.0.ref_ptr.0 a.0.ref_ptr.1 κs.0 $ keep ! (0 ∷ 1 ∷ 3 ∷ 4 ∷ []) $
    -- [the slot; the slot; the tokens; the bytes]
    enter ! _ _ _ _ _ $ alloc_all ! (λ l. pass_all ! refl ((tt, tt), ((tt, tt), ((tt, record { fits = are.1.1.0.1 }), ((tt, record { fits = are.1.1.1.0.1 }), tt)))) $
    feq_i ! (List Val) (me ∷ []) (me ∷ []) refl $ fjoin ! $ nothing ! $ move ! (1 ∷ []) $ fjoin ! $ move ! (2 ∷ []) $ join ! $
    nothing ! $ move ! (1 ∷ []) $ join ! $ use1 𝓛 (raw (T.pre t)) (id⊢ 𝓤 _) $
    calls_at ! (framed 𝓤 𝓛.H 𝓜 𝓣) T (tells_size 𝓤 𝓛 𝓜 𝓡 (code.calls-fixed_arena::slot::Slot::size 𝓡.env wired)) t (and_then ! (get ! refl) (no_more !)) (λ v.
    use1 𝓛 (later (some (λ (j : ℕ). (raw (alive 𝓛 f.signature κs qs) ⊛ ‵ (usize.own_val j (v ∷ []))) ⊛ some (λ (ws : Unit {0} × Unit {0}). ‵ (lasts sizer.ended κs (a.0, tt) ws) ⊛ raw (fact 𝓤 (j ≡ k)))))) (id⊢ 𝓤 (T.post t v)) $
    await ! tt $ pick ! (λ j. split ! $ move ! (1 ∷ []) $ pick ! (λ _. split ! $ drop ! $ heard ! (j ≡ k) (λ said. split ! $ move ! (1 ∷ []) $ fsplit ! $ feq_l ! (λ is. drop ! $
    let fits : k < 2 ^ 64 = omega (arith, whole.1) in
    lands_as ! (ap only is ∙ ap (vint w64) said) refl (tt, record { fits = fits }) $
    sets ! (agg ! (and_then ! (get ! refl) (and_then ! (get ! refl) (no_more !)))) refl (tt, (tt, (record { fits = fits }, tt))) $
    -- [the tokens; the slot; the bytes]
    let m = memory_at b o k whole in
    let z : G.Ghost = ((κs, qs, bounds, (a.0, (m, tt)), (me ∷ [], (memory_val b o k ∷ [], tt))), tt) in
    move ! (2 ∷ []) $ use1 𝓛 (‵ (R.the_row.own_val m (memory_val b o k ∷ []))) (owns_bytes 𝓛 b o k whole) $
    nothing ! $ move ! (1 ∷ []) $ fjoin ! $ move ! (2 ∷ []) $ feq_i ! (List Val) (me ∷ []) (me ∷ []) refl $ fjoin ! $ fjoin ! $ move ! (1 ∷ []) $ join ! $
    nothing ! $ move ! (1 ∷ []) $ join ! $ use1 𝓛 (raw (G.pre z)) (id⊢ 𝓤 _) $
    calls_at ! (framed 𝓤 𝓛.H 𝓜 𝓣) G (puts 𝓤 𝓛 𝓜 𝓡 (code.calls-fixed_arena::slot::Slot::put 𝓡.env wired)) z (and_then ! (get ! refl) (and_then ! (get ! refl) (no_more !))) (λ u.
    use1 𝓛 (later (some (λ (r : Unit {0}). (raw (alive 𝓛 f.signature κs qs) ⊛ ‵ (unit.own_val r (u ∷ []))) ⊛ some (λ (ws : Unit {0} × (Unit {0} × Unit {0})). ‵ (lasts g.ended κs z.0.3 ws) ⊛ ‵ ftrue)))) (id⊢ 𝓤 (G.post z u)) $
    await ! tt $ pick ! (λ r. split ! $ move ! (1 ∷ []) $ drop ! $ split ! $ move ! (1 ∷ []) $ feq_l ! (λ is'. lands_as ! (ap only is') refl (tt, tt) $
    sets ! (of_opd ! (unit_lit !)) refl (tt, tt) $
    returns ! (look_at ! 0 refl) $ free_all ! refl $
    feq_i ! (List Val) (vunit ∷ []) (vunit ∷ []) refl $ nothing ! $ nothing ! $ nothing ! $ fjoin ! $ nothing ! $ fjoin ! $ nothing ! $ fjoin ! $ nothing ! $ fjoin ! $ move ! (3 ∷ 0 ∷ 2 ∷ 1 ∷ []) $
    by ! (leaves 𝓛 f.ended stayed c y vunit tt (tt, (tt, (tt, (tt, tt)))) (tt, (tt, (tt, (tt, tt))))))))))))))))
