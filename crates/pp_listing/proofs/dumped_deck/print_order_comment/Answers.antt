use Rattle.std.proofs.Common.{sym, ◌∙◌}
use Rattle.pp_text.proofs.PrintingLemmas.{prints_on, prints_then}
use Rattle.pp_listing.proofs.OrderCommentLemmas.{comment_is}
use Rattle.pp_listing.proofs.dumped_deck.print_order_comment.Goals as goal

pub returns : goal.returns
returns g c =
    prints_on _ _ _ _ _ _ _ (prints_then _ _ _ _ _ _ c.print.ensures c.print_order.ensures) c.print-2.ensures
    (comment_is c.args.order.now (sym c.is_empty.ensures ∙ c.if-is_empty.false))
