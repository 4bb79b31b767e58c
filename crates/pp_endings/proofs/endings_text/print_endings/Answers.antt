use Rattle.std.proofs.Common.{◌≡◌, length, map, subst, ap, ◌∙◌, arith}
use Rattle.pp_text.specs.TextWriter.{Prints}
use Rattle.pp_text.proofs.PrintingLemmas.{each_below_suc, each_below_zero, prints_nothing, prints_on}
use Rattle.pp_deck.specs.DeckMeaning.{LoadedDeck}
use Rattle.pp_endings.proofs.TextLemmas.{text_at}
use Rattle.pp_endings.specs.EndingsText.{ending_at, ending_text}
use Rattle.pp_endings.proofs.endings_text.print_endings.Goals as goal

pub loop-ending-init : goal.loop-ending-init
loop-ending-init g c = rw (each_below_zero _) (prints_nothing _ _)

pub loop-ending-preserved : goal.loop-ending-preserved
loop-ending-preserved g c =
    let deck : LoadedDeck = record { machine = c.args.source.now.load.now.machine; named = c.args.source.now.load.now.named } in
    let endings = c.args.endings.now in
    let at = ending_at deck (map (λ ending. ending.order.items) endings) (map (λ ending. ending.goes_on) endings) in
    let told : Prints g.W.Write.contents c.loop-ending.text c.print_ending.new.text (at c.loop-ending.ending-index) =
    subst (Prints _ _ _) (ap (λ item. ending_text deck item.order.items item.goes_on) c.ending-item.is
    ∙ text_at deck (λ ending. ending.order.items) (λ ending. ending.goes_on) endings c.loop-ending.ending-index _ c.loop-ending-test.true) c.in_ok-print_ending.ensures in
    prints_on _ _ _ _ _ _ _ c.loop-ending.invariant told (each_below_suc c.loop-ending.ending-index at)

pub returns : goal.returns
returns g c =
    let all : c.loop-ending.ending-index ≡ length c.args.endings.now = omega (arith, c.loop-ending-test.false, c.loop-ending.auto.ending-index-end) in
    rw all at c.loop-ending.invariant
