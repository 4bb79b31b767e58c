use Rattle.std.proofs.Common.{◌≡◌, arith, below_more}
use Rattle.pp_numbers.specs.ChannelNo.{all_channels, channel_count, channel_number, channel_places}
use Rattle.pp_text.proofs.PrintingLemmas.{prints_nothing, prints_on, walk_more, walk_zero}
use Rattle.pp_text.proofs.lines.print_each_channel.Goals as goal

pub loop-place-init : goal.loop-place-init
loop-place-init g c = record {
  text = rw (walk_zero _ channel_number) (prints_nothing _ _);
  fits = λ k within. absurd (omega (arith, within));
}

pub loop-place-preserved : goal.loop-place-preserved
loop-place-preserved g c = record {
  text = prints_on _ _ _ _ _ _ _ c.loop-place.invariant.text (rw c.at.ensures.number at c.print.ensures.text)
      (walk_more _ channel_number c.loop-place.place);
  fits = grind (arith, below_more);
}

pub returns-clause-text : goal.returns-clause-text
unfolding all_channels
returns-clause-text g c = let all : c.loop-place.place ≡ channel_count = omega arith in rw all at c.loop-place.invariant.text

pub returns-clause-fits : goal.returns-clause-fits
returns-clause-fits g c = grind (arith, channel_places.place_below, channel_places.number_of_place)
