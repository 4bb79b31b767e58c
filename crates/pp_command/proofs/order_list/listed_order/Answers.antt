use Rattle.std.proofs.Common.{◌≡◌, ◌+◌, replicate, vec_len, None, Some, sym, rules, arith}
use Rattle.std.proofs.lemmas.List.{length-replicate}
use Rattle.pp_command.proofs.OrderListLemmas.{all_listed, filled, no_item, one_item_more, too_many}
use Rattle.pp_command.specs.OrderList.{item_steps}
use Rattle.pp_command.proofs.order_list.listed_order.Goals as goal

pub returns-in_default-item_of : goal.returns-in_default-item_of
returns-in_default-item_of g c =
    let none : item_steps c.args.profile c.first_of.result.0.now ≡ None = search rules in
    sym (no_item c.args.profile c.args.text.now c.loop-rest.order.items _ _ (rw (c.in-Some.is, c.first_of.ensures.parted) at c.loop-rest.invariant) none)

pub returns-then-item-len : goal.returns-then-item-len
returns-then-item-len g c =
    let item = c.in-Some-item_of.item in
    let own = replicate item.steps item.processor in
    let is : item_steps c.args.profile c.first_of.result.0.now ≡ Some own = search rules in
    sym (too_many c.args.profile c.args.text.now c.loop-rest.order.items _ own _ (rw (c.in-Some.is, c.first_of.ensures.parted) at c.loop-rest.invariant) is
    (omega (arith, c.if-item-len.true, c.len.ensures, length-replicate item.steps item.processor, c.loop-rest.invariant.few)))

pub loop-rest-preserved : goal.loop-rest-preserved
loop-rest-preserved g c =
    let item = c.in-Some-item_of.item in
    let own = replicate item.steps item.processor in
    let is : item_steps c.args.profile c.first_of.result.0.now ≡ Some own = search rules in
    rw (c.in_ok-resize.ensures.items, filled c.loop-rest.order.items item.processor item.steps (vec_len c.loop-rest.order) (c.len-in-Some.result + item.steps) (omega (arith, c.loop-rest.order.ok.0)) (omega (arith, c.len-in-Some.ensures))) (one_item_more c.args.profile c.args.text.now c.loop-rest.order.items _ own _ (rw (c.in-Some.is, c.first_of.ensures.parted) at c.loop-rest.invariant) is
    (omega (arith, c.if-item-len.false, c.len.ensures, length-replicate item.steps item.processor, c.loop-rest.invariant.few)))

pub returns : goal.returns
returns g c = sym (all_listed c.args.profile c.args.text.now c.loop-rest.order.items (rw c.in_default.is at c.loop-rest.invariant))
