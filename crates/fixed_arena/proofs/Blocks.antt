-- Memory as a machine value, and what its bytes are made into. Assumes `Logic`.
use Rattle.std.proofs.Common.{◌≡◌, ℕ, ◌+◌, ◌*◌, ◌/◌, ◌%◌, ◌^◌, ◌<◌, ◌≤◌, zero, suc, List, [], ◌∷◌, ◌++◌, IfSome, None, Some, refl, ap, ◌∙◌, arith, w64}
use seplogic.Ra.Ura.{Ura}
use mir.Syntax.{Ty, w128, ty_int, ty_array}
use mir.Val.{Val, vint, vptr, vstruct, vcons, vnil, of_list}
use base.Logic.{ent, sep, id⊢}
use base.Fml.{froom, fsep}
use prog.Memory.{size}
use types.Logic.{Logic, sem}
use types.Kit.{Item, Goal, Seq, ‵, ◌⊛◌, ◌$◌, ◌∵◌, !, qed, use0, use1, move, drop, split, rewrite, fjoin, fsplit, fpick, feq_l, done}
use types.Match.{live}
use denote.Laws.{shows}
use denote.RattleType.{RattleType}
use denote.Steps.{only, peeks}
use Rattle.core.specs.contracts.option.Option as option
use denote.RawPtr.{Ptr, block_ptr, in_a_block}
use denote.RawPtr.Room.{room_cut, past}
use denote.Shadow.{makes_shadow}
use denote.Struct.Struct.{Struct}
use denote.Struct.Owning.{shape}
use Rattle.core.proofs.slots.Carves.{carve}
use Rattle.fixed_arena.specs.Units.{IsWhole, bytes_at, units_of, whole_block_token}
use Rattle.fixed_arena.specs.declared.memory.Memory.{Memory}
use Rattle.fixed_arena.specs.contracts.memory.Memory as R
use Rattle.fixed_arena.proofs.memory.Memory.TheLaws.{lowered, lowers}

-- memory of n bytes, from a place in a block on
abbrev pub memory_at : (b o n : ℕ) → IsWhole n → Memory
memory_at b o n whole = record { ptr = block_ptr b o; size = n; fits = whole }

abbrev pub memory_val : ℕ → ℕ → ℕ → Val
memory_val b o n = vstruct (vcons (vptr b o) (vcons (vint w64 n) vnil))

far : (k o : ℕ) → past (ty_int w128) k o ≡ o + k * 16
far zero o = omega arith
far (suc k) o = far k (o + 16) ∙ omega arith

module _ {M : Type 1} {𝓤 : Ura M} (𝓛 : Logic 𝓤) (b o : ℕ) where
  -- whoever has the bytes has a `Memory` of them
  pub owns_bytes : (n : ℕ) (whole : IsWhole n)
      → ent 𝓤 (sem 𝓛 (bytes_at (block_ptr b o) n)) (sem 𝓛 (R.the_row.own_val (memory_at b o n whole) (memory_val b o n ∷ [])))
  owns_bytes n whole =
      let fits : n < 2 ^ 64 = omega (arith, whole.1) in
      let parts = (Struct (shape R.the_type)).own_val (block_ptr b o, (n, tt)) (memory_val b o n ∷ []) in
      qed 𝓛 (‵ (bytes_at (block_ptr b o) n) ∷ []) ∵
      use0 𝓛 (‵ parts) (makes_shadow 𝓛 parts (λ _. (tt, (tt, ((tt, tt), tt)))) ((vptr b o ∷ [], (vint w64 n ∷ [], tt)), (refl, (refl, ((refl, fits), tt))))) $
      fjoin ! $ done !

  -- bytes are cut in two, at a whole number of units
  pub cut_bytes : (m n : ℕ) → m % 16 ≡ 0
      → ent 𝓤 (sem 𝓛 (bytes_at (block_ptr b o) (m + n))) (sep 𝓤 (sem 𝓛 (bytes_at (block_ptr b o) m)) (sem 𝓛 (bytes_at (block_ptr b (o + m)) n)))
  cut_bytes m n whole =
      let together : (m + n) / 16 ≡ m / 16 + n / 16 = omega (arith, whole) in
      let place : past (ty_int w128) (m / 16) o ≡ o + m = far (m / 16) o ∙ omega (arith, whole) in
      qed 𝓛 (‵ (bytes_at (block_ptr b o) (m + n)) ∷ []) ∵
      rewrite ! 0 (λ (k : ℕ). ‵ (froom (ty_array (ty_int w128) k) b o)) together refl $
      use1 𝓛 (‵ (bytes_at (block_ptr b o) m) ⊛ ‵ (froom (units_of n) b (past (ty_int w128) (m / 16) o))) (room_cut 𝓛 (ty_int w128) (m / 16) (n / 16) b o) $ split ! $
      rewrite ! 1 (λ (d : ℕ). ‵ (froom (units_of n) b d)) place refl $ done !

  -- bytes are room for each type that is no longer, and are had back with it
  pub block_of_bytes : (τ : Ty) (n : ℕ) → n % 16 ≡ 0 → size τ ≤ n → ent 𝓤 (sem 𝓛 (bytes_at (block_ptr b o) n)) (sem 𝓛 (fsep (froom τ b o) (whole_block_token n τ (block_ptr b o))))
  block_of_bytes τ n whole short =
      qed 𝓛 (‵ (bytes_at (block_ptr b o) n) ∷ []) ∵
      use1 𝓛 (‵ (fsep (froom τ b o) (whole_block_token n τ (block_ptr b o)))) (carve 𝓛 (units_of n) τ (n / 16) b o refl refl (omega (arith, whole, short))) $ done !

-- what `Slot::take` gave: memory in a block, or none
abbrev pub Taken : RattleType
Taken = option.the_row R.the_row

module _ {M : Type 1} {𝓤 : Ura M} {𝓛 : Logic 𝓤} {K : Type 0} {Γ : List (Item 𝓤)} {G : Goal 𝓤 𝓛.H} where
  pub taken : K → (Q : Memory → Type 0) (x : Taken.Denot) (v : Val) → IfSome x Q
      → ((m : Memory) (b o : ℕ) → Q m → v ≡ live 1 (vcons (memory_val b o m.size) vnil) → Seq K 𝓛 (‵ (bytes_at (block_ptr b o) m.size) ∷ Γ) G)
      → (v ≡ live 0 vnil → Seq K 𝓛 Γ G) → Seq K 𝓛 (‵ (Taken.own_val x (v ∷ [])) ∷ Γ) G
  taken t Q None v told some none =
      fpick t (λ us. fsplit t $ feq_l t (λ tagged. fpick t (λ vss. fsplit t $ feq_l t (λ fields. drop t $
      none (ap only tagged ∙ ap (λ (ws : List Val). live 0 (of_list ws)) fields)))))
  taken t Q (Some m) v told some none =
      fpick t (λ us. fsplit t $ feq_l t (λ tagged. fpick t (λ vss. fsplit t $ feq_l t (λ fields. fsplit t $ move t (1 ∷ []) $ drop t $
      peeks t R.the_row _ (shows 𝓛 R.the_row) m vss.0 (λ is. fsplit t $ drop t $
      in_a_block t m.ptr (λ p. bytes_at p m.size) (id⊢ 𝓤 _) (λ b o e.
      some m b o told (ap only tagged ∙ ap (λ (ws : List Val). live 1 (of_list ws)) (fields ∙ ap (λ (ws : List Val). ws ++ [])
      (lowers.val_is m vss.0 is ∙ ap (λ (p : Ptr). lowered (record m { ptr = p }) ∷ []) e)))))))))
