-- The bytes are cut in two, and each part is made a memory of its own. Assumes `Logic`.
use Rattle.std.proofs.Common.{◌≡◌, ℕ, ◌+◌, ◌-◌, ◌%◌, ◌≤◌, [], ◌∷◌, refl, ap, arith, w64}
use mir.Val.{vint, vptr}
use base.Logic.{id⊢}
use prog.Wp.{WpFn}
use contract.Monad.{fact}
use contract.Running.{tables}
use types.Kit.{‵, raw, ◌⊛◌, prop, ◌$◌, ◌∵◌, !, qed, move, drop, use1, use2, split, regoal, fsplit, join, rewrite, done, suffices}
use types.Part.{whole, sub, agg}
use types.Run.{stop, fld, of_opd, bin, no_more, and_then, returns, enter}
use types.ByLocal.{alloc_all, pass_all, free_all, look_at, get, get_in, sets, is}
use denote.Builtin.{usize}
use denote.Exit.{yes}
use denote.Plain.{uint_vals, uint_Tells}
use denote.RattleType.{owns}
use denote.RawPtr.{Ptr, block_ptr, in_a_block}
use denote.Signature.{plain, types_at}
use denote.Steps.{nothing, heard}
use denote.Struct.Tuple.{Tuple}
use denote.Triple.Entry.{alive}
use denote.Triple.Walked.{Stays, walk_of, stay_dropped, Goes-dropped, says, ends_at}
use Rattle.core.proofs.alloc.Calls.{Goes-blank}
use Rattle.std_alloc.proofs.Pairs.{pair_of, pair_val}
use Rattle.std.proofs.raw_atomic.Walks.{proved}
use Rattle.fixed_arena.specs.Units.{IsWhole, bytes_at}
use Rattle.fixed_arena.specs.contracts.memory.Memory as R
use Rattle.fixed_arena.proofs.memory.Memory.TheLaws.{lowered, lowers}
use Rattle.fixed_arena.proofs.Blocks.{memory_at, memory_val, owns_bytes, cut_bytes}
use Rattle.fixed_arena.specs.contracts.memory.Memory.cut as f
use Rattle.fixed_arena.proofs.memory.Memory.cut.Statement.{statement}
use Rattle.fixed_arena.proofs.memory.Memory.cut.Code as code

abbrev stayed : Stays f.ended.signature.params f.ended.kept
stayed = (stay_dropped _ yes, (stay_dropped _ yes, tt))

pub cut_spec : {M : Type 1} → statement M
cut_spec 𝓤 𝓛 𝓜 𝓡 wired =
    let c = f.clauses 𝓛 𝓜.mem 𝓡.returns in
    let W = walk_of 𝓛 f.ended stayed c in
    let 𝓣 = tables 𝓤 𝓛.H 𝓜 𝓡 𝓡.env in
    let number = Goes-dropped 𝓛 0 (plain (λ _. usize)) yes (λ κs x w. refl) in
    proved 𝓛 f.ended stayed c 𝓜 𝓡 (Goes-blank 𝓛 0 (plain (λ _. R.the_row)) yes (λ κs x w. tt), (number, tt))
    f.Key.name code.function (code.unfolded 𝓤 𝓛.H 𝓜 𝓡 wired)
    (λ κs. ((λ m. lowered m ∷ []), (uint_vals w64, tt))) (λ κs. (lowers.val_is, (uint_Tells w64, tt))) (λ κs qs bounds a _ are.
    let n = a.0.size in let k = a.1.0 in
    let Asked : Type 0 = (k % 16 ≡ 0) × (k ≤ n) in
    let y : Ptr → W.Ghost = λ p. let m = record a.0 { ptr = p } in ((κs, qs, bounds, (m, a.1), (lowered m ∷ [], (uint_vals w64 k, tt))), tt) in
    qed 𝓛 ((raw (alive 𝓛 f.signature κs qs) ⊛ ‵ (owns (types_at f.signature.params κs) a (lowered a.0 ∷ [], (uint_vals w64 k, tt)))) ∷ raw (fact 𝓤 Asked) ∷ []) ∵
    move ! (1 ∷ []) $ heard ! Asked (λ asked. split ! $ move ! (1 ∷ []) $ fsplit ! $ fsplit ! $ drop ! $
    in_a_block ! a.0.ptr (λ p. bytes_at p n) (id⊢ 𝓤 _) (λ b o e.
    regoal ! (λ p. prop (WpFn 𝓤 𝓛.H 𝓣.C 𝓣.Λ code.function (lowered (record a.0 { ptr = p }) ∷ vint w64 k ∷ []) (W.post (y p)))) e refl $
    move ! (1 ∷ []) $ drop ! $
    -- [the bytes; the tokens]
    let whole_front : IsWhole k = (asked.0, omega (arith, asked, a.0.fits)) in
    let whole_rest : IsWhole (n - k) = (omega (arith, asked, a.0.fits), omega (arith, a.0.fits)) in
    let moved : k + o ≡ o + k = omega arith in
    enter ! _ _ _ _ _ $ alloc_all ! (λ l. pass_all ! refl ((tt, (tt, (record { fits = omega (arith, a.0.fits) }, tt))), ((tt, record { fits = omega (arith, asked, a.0.fits) }), tt)) $
    sets ! (of_opd ! (get_in ! (fld ! refl (stop !)) (sub ! 0 refl (whole !)))) refl (tt, tt) $
    sets ! (of_opd ! (get_in ! (fld ! refl (stop !)) (sub ! 1 refl (whole !)))) refl (tt, record { fits = omega (arith, a.0.fits) }) $
    sets ! (is ! (bin ! (get ! refl) (get ! refl) tt) (ap (vptr b) moved)) refl (tt, tt) $
    sets ! (bin ! (get ! refl) (get ! refl) asked.1) refl (tt, record { fits = omega (arith, a.0.fits) }) $
    sets ! (agg ! (and_then ! (get ! refl) (and_then ! (get ! refl) (no_more !)))) refl (tt, (tt, (record { fits = omega (arith, asked, a.0.fits) }, tt))) $
    sets ! (agg ! (and_then ! (get ! refl) (and_then ! (get ! refl) (no_more !)))) refl (tt, (tt, (record { fits = omega (arith, a.0.fits) }, tt))) $
    sets ! (agg ! (and_then ! (get ! refl) (and_then ! (get ! refl) (no_more !)))) refl (tt, ((tt, (record { fits = omega (arith, asked, a.0.fits) }, tt)), ((tt, (record { fits = omega (arith, a.0.fits) }, tt)), tt))) $
    returns ! (look_at ! 0 refl) $ free_all ! refl $
    let front = memory_at b o k whole_front in let rest = memory_at b (o + k) (n - k) whole_rest in
    let u = memory_val b o k in let v = memory_val b (o + k) (n - k) in
    suffices ! _ (ends_at 𝓛 f.ended stayed c (y (block_ptr b o)) (pair_val u v) (front, rest) (tt, (tt, tt)) (tt, (tt, tt))) $ says ! (refl, refl) $
    rewrite ! 0 (λ (j : ℕ). ‵ (bytes_at (block_ptr b o) j)) (omega (arith, asked)) refl $
    use1 𝓛 (‵ (bytes_at (block_ptr b o) k) ⊛ ‵ (bytes_at (block_ptr b (o + k)) (n - k))) (cut_bytes 𝓛 b o k (n - k) asked.0) $ split ! $
    use1 𝓛 (‵ (R.the_row.own_val front (u ∷ []))) (owns_bytes 𝓛 b o k whole_front) $ move ! (1 ∷ []) $
    use1 𝓛 (‵ (R.the_row.own_val rest (v ∷ []))) (owns_bytes 𝓛 b (o + k) (n - k) whole_rest) $ move ! (1 ∷ 0 ∷ []) $
    use2 𝓛 (‵ ((Tuple (R.the_row ∷ R.the_row ∷ [])).own_val (front, rest) (pair_val u v ∷ []))) (pair_of 𝓛 R.the_row R.the_row front rest u v) $
    nothing ! $ nothing ! $ join ! $ nothing ! $ join ! $ move ! (2 ∷ 0 ∷ 1 ∷ []) $ done !))))
