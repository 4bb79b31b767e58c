use Rattle.std.proofs.Common.{◌≡◌, ℕ, ◌<◌, ◌≤◌, ◌++◌, [], List, get_or, length, map, subst, sym, ap, ◌∙◌, arith}
use Rattle.std.specs.Prelude.{All}
use Rattle.std.proofs.lemmas.List.{get_or-map, length-map, take_all}
use Rattle.std.proofs.lemmas.List.Elements.{All-more}
use Rattle.pp_endings.specs.EndingsText.{order_line}
use Rattle.pp_test.specs.EveryOrder.{AreLinesAfter, IsHeldAfter}
use Rattle.pp_test.specs.Verdict.{is_held, verdict}
use Rattle.pp_test.proofs.every_order.first_failure.Goals as goal

-- an ending's order is that at its place
order_at : {E : Type 0} (order : E → List ℕ) (endings : List E) (i : ℕ) (e : E) (own : List ℕ) → i < length endings → e ≡ get_or endings i e → own ≡ order e
    → own ≡ get_or (map order endings) i []
order_at order endings i e own low is named = named ∙ ap order is ∙ sym (get_or-map order endings i e [] low)

in_map : {E : Type 0} (order : E → List ℕ) (endings : List E) (i : ℕ) → i < length endings → i < length (map order endings)
in_map order endings i low = omega (arith, low, length-map endings order)

pub lines_of_ending-requires-clause-few : goal.lines_of_ending-requires-clause-few
lines_of_ending-requires-clause-few g c =
    let i = c.loop-ending.ending-index in
    let low = c.loop-ending-test.true in
    let at = order_at (λ ending. ending.order.items) c.args.endings.now i _ _ low c.ending-item.is c.as_slice-order.ensures.value in
    subst (λ (order : List ℕ). length order ≤ 999999) (sym at) (c.requires.few i [] (in_map (λ ending. ending.order.items) c.args.endings.now i low))

pub loop-ending-preserved : goal.loop-ending-preserved
loop-ending-preserved g c = λ deck meant.
    let i = c.loop-ending.ending-index in
    let low = c.loop-ending-test.true in
    let bytes = c.args.bytes.now in
    let at = order_at (λ ending. ending.order.items) c.args.endings.now i _ _ low c.ending-item.is c.as_slice-order.ensures.value in
    let held : is_held bytes c.in_ok-lines.lines.items ≡ _ = rw c.as_slice.ensures.value at (sym c.in_ok-write_ending.ensures.held) in
    All-more (IsHeldAfter bytes deck) (map (λ ending. ending.order.items) c.args.endings.now) i [] (in_map (λ ending. ending.order.items) c.args.endings.now i low)
    (c.loop-ending.invariant deck meant)
    (subst (IsHeldAfter bytes deck) at (c.in_ok-lines.lines.items, c.in_ok-lines.ensures deck meant, held ∙ c.if-not-branch.false))

pub returns-then-not-branch-clause-some : goal.returns-then-not-branch-clause-some
returns-then-not-branch-clause-some g c = λ deck meant.
    let i = c.loop-ending.ending-index in
    let low = c.loop-ending-test.true in
    let bytes = c.args.bytes.now in
    let lines = c.in_ok-lines.lines.items in
    let at = order_at (λ ending. ending.order.items) c.args.endings.now i _ _ low c.ending-item.is c.as_slice-order.ensures.value in
    let held : is_held bytes lines ≡ _ = rw c.as_slice.ensures.value at (sym c.in_ok-write_ending.ensures.held) in
    let written : c.write_ending.new.writer.items ≡ c.new-text.result.items ++ (order_line c.as_slice-order.result.now ++ verdict bytes lines) =
    rw c.as_slice.ensures.value at c.in_ok-write_ending.ensures.written in
    record {
      place = i;
      within = in_map (λ ending. ending.order.items) c.args.endings.now i low;
      before = c.loop-ending.invariant deck meant;
      lines = lines;
      lines_are = subst (λ (order : List ℕ). AreLinesAfter bytes deck order lines) at (c.in_ok-lines.ensures deck meant);
      fails = held ∙ c.if-not-branch.true;
      text_is = written ∙ ap (λ (items : List ℕ). items ++ (order_line c.as_slice-order.result.now ++ verdict bytes lines)) c.new-text.ensures.items
          ∙ ap (λ (order : List ℕ). order_line order ++ verdict bytes lines) at;
    }

pub returns-clause-none : goal.returns-clause-none
returns-clause-none g c = λ deck meant.
    let orders = map (λ ending. ending.order.items) c.args.endings.now in
    let all : length orders ≤ c.loop-ending.ending-index = omega (arith, c.loop-ending-test.false, length-map c.args.endings.now (λ ending. ending.order.items)) in
    subst (All (IsHeldAfter c.args.bytes.now deck)) (take_all c.loop-ending.ending-index orders all) (c.loop-ending.invariant deck meant)
