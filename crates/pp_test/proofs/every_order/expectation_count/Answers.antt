use Rattle.std.proofs.Common.{ap, arith, length}
use Rattle.std.specs.List.{count_by}
use Rattle.std.proofs.lemmas.List.Splits.{length-slice_split}
use Rattle.std.proofs.lemmas.List.Sums.{count_by-le-length}
use Rattle.pp_deck.specs.DeckText.{is_line_feed}
use Rattle.pp_test.specs.Reading.{has_expectation}
use Rattle.pp_test.proofs.CountLemmas.{count_all}
use Rattle.pp_test.proofs.every_order.expectation_count.Goals as goal

pub loop-line-init : goal.loop-line-init
loop-line-init c =
    let deck = c.args.deck.now in
    record {
      counted = omega (arith, ap (count_by has_expectation) c.of-left.ensures, count_all deck);
      few = omega (arith, ap length c.of-left.ensures, length-slice_split is_line_feed deck, count_by-le-length is_line_feed deck, c.requires);
    }
