use Rattle.std.proofs.Common.{◌≡◌, ◌+◌, Bool, true, false, List, [], ◌∷◌, ap, arith, sym, ◌∙◌}
use Rattle.std.specs.Prelude.{if◌then◌else◌}
use Rattle.pp_instructions.specs.Claim.{Claim, claim, claims, is_marked, is_mnemonic, is_operand, unmarked}
use Rattle.pp_instructions.proofs.ClaimLemmas.{bare_said, last_said, marked_said, nothing_said, operand_said, prose_said}
use Rattle.pp_instructions.proofs.claim.Claims.next_claim.Goals as goal

-- what is left, while more may come
left_is : (goes : Bool) (all now : List Claim) → (if goes then all else []) ≡ now → goes ≡ true → now ≡ all
left_is true all now is goes = sym is
left_is false all now is goes = absurd (cc)

as_said : (now more : List Claim) (a b : Claim) (goes on : Bool) → now ≡ b ∷ (if on then more else []) → a ≡ b → goes ≡ on → now ≡ a ∷ (if goes then more else [])
as_said now more a b goes on is same likewise = cc

pub returns-in_err-first-clause-none : goal.returns-in_err-first-clause-none
returns-in_err-first-clause-none c = rw c.from_residual.ensures (left_is _ _ _ c.self.view_is c.if-not-self.false ∙ ap (claims c.self.inside.number) c.in_err-first.ensures.none ∙ nothing_said c.self.inside.number)

pub returns-then-not-is_mnemonic-clause-none : goal.returns-then-not-is_mnemonic-clause-none
returns-then-not-is_mnemonic-clause-none c =
    left_is _ _ _ c.self.view_is c.if-not-self.false ∙ ap (claims c.self.inside.number) c.in_ok-first.ensures.taken
    ∙ prose_said c.self.inside.number c.in_ok-first.first.now c.next_field.new.self (ap is_mnemonic (sym c.unmarked-mnemonic.ensures) ∙ sym c.is_mnemonic.ensures ∙ c.if-not-is_mnemonic.true)

pub returns-then-is_marked-clause-taken : goal.returns-then-is_marked-clause-taken
returns-then-is_marked-clause-taken c =
    let is : is_mnemonic (unmarked c.in_ok-first.first.now) ≡ true = ap is_mnemonic (sym c.unmarked-mnemonic.ensures) ∙ sym c.is_mnemonic.ensures ∙ c.if-not-is_mnemonic.false in
    let marked : is_marked c.in_ok-first.first.now ≡ true = sym c.is_marked.ensures ∙ c.if-is_marked.true in
    as_said _ _ _ _ _ _ (left_is _ _ _ c.self.view_is c.if-not-self.false ∙ ap (claims c.self.inside.number) c.in_ok-first.ensures.taken ∙ marked_said c.self.inside.number c.in_ok-first.first.now c.next_field.new.self is marked)
    (c.alone.ensures ∙ ap (λ name. claim c.self.inside.number name []) c.unmarked-mnemonic.ensures) c.goes_on-self-inside.ensures

pub returns-in_default-clause-taken : goal.returns-in_default-clause-taken
returns-in_default-clause-taken c =
    let is : is_mnemonic (unmarked c.in_ok-first.first.now) ≡ true = ap is_mnemonic (sym c.unmarked-mnemonic.ensures) ∙ sym c.is_mnemonic.ensures ∙ c.if-not-is_mnemonic.false in
    left_is _ _ _ c.self.view_is c.if-not-self.false ∙ ap (claims c.self.inside.number) (c.in_ok-first.ensures.taken ∙ ap (λ rest. c.in_ok-first.first.now ∷ rest) c.in_default.ensures.none)
    ∙ last_said c.self.inside.number c.in_ok-first.first.now is
    ∙ ap (λ said. said ∷ []) (ap (λ name. claim c.self.inside.number name []) (sym c.unmarked-mnemonic.ensures) ∙ sym c.alone-in_default.ensures)

pub returns-then-not-is_operand-clause-taken : goal.returns-then-not-is_operand-clause-taken
returns-then-not-is_operand-clause-taken c =
    let is : is_mnemonic (unmarked c.in_ok-first.first.now) ≡ true = ap is_mnemonic (sym c.unmarked-mnemonic.ensures) ∙ sym c.is_mnemonic.ensures ∙ c.if-not-is_mnemonic.false in
    let plain : is_marked c.in_ok-first.first.now ≡ false = sym c.is_marked.ensures ∙ c.if-is_marked.false in
    let prose : is_operand (unmarked c.in-Some.next.now) ≡ false = ap is_operand (sym c.unmarked-operand.ensures) ∙ sym c.is_operand.ensures ∙ c.if-not-is_operand.true in
    left_is _ _ _ c.self.view_is c.if-not-self.false ∙ ap (claims c.self.inside.number) (c.in_ok-first.ensures.taken ∙ ap (λ rest. c.in_ok-first.first.now ∷ rest) c.in-Some.ensures.taken)
    ∙ bare_said c.self.inside.number c.in_ok-first.first.now c.in-Some.next.now c.next_field-2.new.self is plain prose
    ∙ ap (λ said. said ∷ []) (ap (λ name. claim c.self.inside.number name []) (sym c.unmarked-mnemonic.ensures) ∙ sym c.alone-then-not-is_operand.ensures)

pub returns-clause-taken : goal.returns-clause-taken
returns-clause-taken c =
    let is : is_mnemonic (unmarked c.in_ok-first.first.now) ≡ true = ap is_mnemonic (sym c.unmarked-mnemonic.ensures) ∙ sym c.is_mnemonic.ensures ∙ c.if-not-is_mnemonic.false in
    let plain : is_marked c.in_ok-first.first.now ≡ false = sym c.is_marked.ensures ∙ c.if-is_marked.false in
    let operand : is_operand (unmarked c.in-Some.next.now) ≡ true = ap is_operand (sym c.unmarked-operand.ensures) ∙ sym c.is_operand.ensures ∙ c.if-not-is_operand.false in
    let next : c.self.inside.number + 2 ≡ c.self.inside.number + 1 + 1 = omega arith in
    as_said _ _ _ _ _ _ (left_is _ _ _ c.self.view_is c.if-not-self.false ∙ ap (claims c.self.inside.number) (c.in_ok-first.ensures.taken ∙ ap (λ rest. c.in_ok-first.first.now ∷ rest) c.in-Some.ensures.taken)
    ∙ rw next at (operand_said c.self.inside.number c.in_ok-first.first.now c.in-Some.next.now c.next_field-2.new.self is plain operand))
    (ap (λ name. claim c.self.inside.number name c.unmarked-operand.result.now) c.unmarked-mnemonic.ensures ∙ ap (λ operand. claim c.self.inside.number (unmarked c.in_ok-first.first.now) operand) c.unmarked-operand.ensures) c.goes_on-self-inside-2.ensures
