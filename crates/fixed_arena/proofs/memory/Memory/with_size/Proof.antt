-- The size is copied, and the memory made again of its two parts. Assumes `Logic`.
use Rattle.std.proofs.Common.{◌^◌, ◌<◌, List, [], ◌∷◌, refl, arith, w64}
use mir.Val.{Val, vint}
use base.Logic.{id⊢}
use base.Fml.{ftrue}
use prog.Wp.{WpFn}
use contract.Running.{tables}
use types.Kit.{‵, raw, ◌⊛◌, prop, ◌$◌, ◌∵◌, !, qed, move, drop, use1, use2, split, regoal, fsplit, fjoin, feq_i, flt_i, join, done, suffices}
use types.Part.{whole, sub, agg}
use types.Run.{stop, fld, of_opd, no_more, and_then, returns, enter}
use types.ByLocal.{alloc_all, pass_all, free_all, look_at, get, get_in, sets}
use denote.Builtin.{usize}
use denote.Exit.{yes}
use denote.RattleType.{owns}
use denote.RawPtr.{Ptr, block_ptr, in_a_block}
use denote.Signature.{plain, types_at}
use denote.Steps.{nothing}
use denote.Struct.Tuple.{Tuple}
use denote.Triple.Entry.{alive}
use denote.Triple.Walked.{Stays, walk_of, stay_dropped, says, ends_at}
use Rattle.core.proofs.alloc.Calls.{Goes-blank}
use Rattle.std_alloc.proofs.Pairs.{pair_of, pair_val}
use Rattle.std.proofs.raw_atomic.Walks.{proved}
use Rattle.fixed_arena.specs.Units.{bytes_at}
use Rattle.fixed_arena.specs.contracts.memory.Memory as R
use Rattle.fixed_arena.proofs.memory.Memory.TheLaws.{lowered, lowers}
use Rattle.fixed_arena.proofs.Blocks.{memory_at, memory_val, owns_bytes}
use Rattle.fixed_arena.specs.contracts.memory.Memory.with_size as f
use Rattle.fixed_arena.proofs.memory.Memory.with_size.Statement.{statement}
use Rattle.fixed_arena.proofs.memory.Memory.with_size.Code as code

abbrev stayed : Stays f.ended.signature.params f.ended.kept
stayed = (stay_dropped _ yes, tt)

pub with_size_spec : {M : Type 1} → statement M
with_size_spec 𝓤 𝓛 𝓜 𝓡 wired =
    let c = f.clauses 𝓛 𝓜.mem 𝓡.returns in
    let W = walk_of 𝓛 f.ended stayed c in
    let 𝓣 = tables 𝓤 𝓛.H 𝓜 𝓡 𝓡.env in
    proved 𝓛 f.ended stayed c 𝓜 𝓡 (Goes-blank 𝓛 0 (plain (λ _. R.the_row)) yes (λ κs x w. tt), tt)
    f.Key.name code.function (code.unfolded 𝓤 𝓛.H 𝓜 𝓡 wired)
    (λ κs. ((λ m. lowered m ∷ []), tt)) (λ κs. (lowers.val_is, tt)) (λ κs qs bounds a _ are.
    let n = a.0.size in
    let fits : n < 2 ^ 64 = omega (arith, a.0.fits.1) in
    let y : Ptr → W.Ghost = λ p. let m = record a.0 { ptr = p } in ((κs, qs, bounds, (m, tt), (lowered m ∷ [], tt)), tt) in
    qed 𝓛 ((raw (alive 𝓛 f.signature κs qs) ⊛ ‵ (owns (types_at f.signature.params κs) a (lowered a.0 ∷ [], tt))) ∷ ‵ ftrue ∷ []) ∵
    move ! (1 ∷ []) $ drop ! $ split ! $ move ! (1 ∷ []) $ fsplit ! $ fsplit ! $ drop ! $
    in_a_block ! a.0.ptr (λ p. bytes_at p n) (id⊢ 𝓤 _) (λ b o e.
    regoal ! (λ p. prop (WpFn 𝓤 𝓛.H 𝓣.C 𝓣.Λ code.function (lowered (record a.0 { ptr = p }) ∷ []) (W.post (y p)))) e refl $
    move ! (1 ∷ []) $ drop ! $
    -- [the bytes; the tokens]
    enter ! _ _ _ _ _ $ alloc_all ! (λ l. pass_all ! refl ((tt, (tt, (record { fits = fits }, tt))), tt) $
    sets ! (of_opd ! (get_in ! (fld ! refl (stop !)) (sub ! 0 refl (whole !)))) refl (tt, tt) $
    sets ! (of_opd ! (get_in ! (fld ! refl (stop !)) (sub ! 1 refl (whole !)))) refl (tt, record { fits = fits }) $
    sets ! (agg ! (and_then ! (get ! refl) (and_then ! (get ! refl) (no_more !)))) refl (tt, (tt, (record { fits = fits }, tt))) $
    sets ! (agg ! (and_then ! (get ! refl) (and_then ! (get ! refl) (no_more !)))) refl (tt, (record { fits = fits }, ((tt, (record { fits = fits }, tt)), tt))) $
    returns ! (look_at ! 0 refl) $ free_all ! refl $
    let m = memory_at b o n a.0.fits in let v = memory_val b o n in
    suffices ! _ (ends_at 𝓛 f.ended stayed c (y (block_ptr b o)) (pair_val (vint w64 n) v) (n, m) (tt, tt) (tt, tt)) $ says ! (refl, refl) $
    use1 𝓛 (‵ (R.the_row.own_val m (v ∷ []))) (owns_bytes 𝓛 b o n a.0.fits) $
    flt_i ! n (2 ^ 64) fits $ feq_i ! (List Val) (vint w64 n ∷ []) _ refl $ fjoin ! $
    use2 𝓛 (‵ ((Tuple (usize ∷ R.the_row ∷ [])).own_val (n, m) (pair_val (vint w64 n) v ∷ []))) (pair_of 𝓛 usize R.the_row n m (vint w64 n) v) $
    nothing ! $ nothing ! $ join ! $ move ! (2 ∷ 0 ∷ 1 ∷ []) $ done !)))
