use Rattle.std.proofs.Common.{◌≡◌, ℕ, ◌<◌, All, arith, subst, below_more}
use Rattle.std.specs.Prelude.{IsTrue}
use Rattle.std.specs.List.{flat_map}
use Rattle.pp_numbers.specs.Tables.{tabulate}
use Rattle.pp_numbers.specs.ChannelNo.{all_channels, channel_count, channel_index, channel_number, names_channel, channel_places}
use Rattle.pp_channel.specs.History.{history_on}
use Rattle.pp_text.specs.TextWriter.{Prints}
use Rattle.pp_report.specs.PrintedReport.{channel_events}
use Rattle.pp_report.specs.ReportLaw.{FitsItsLine, printed_events}
use Rattle.pp_text.proofs.PrintingLemmas.{prints_nothing, prints_on, walk_zero, walk_more}
use Rattle.pp_report.proofs.AuthorLemmas.{authors_here}
use Rattle.pp_report.proofs.report_text.print_events.Goals as goal

pub loop-place-init : goal.loop-place-init
loop-place-init g c workers are = (rw (walk_zero (channel_events workers c.args.channels.now) channel_number) (prints_nothing _ _), λ k within. absurd (omega (arith, within)))

pub loop-place-preserved : goal.loop-place-preserved
loop-place-preserved g c workers are =
    let number = c.at-c.ensures.number in
    let so_far = c.loop-place.invariant workers are in
    let below : c.loop-place.place < channel_count = omega arith in
    let names : IsTrue (names_channel c.at-c.result) = rw number (channel_places.number_named c.loop-place.place below) in
    let here = authors_here c.at-c.result c.index.result workers c.args.channels.now c.args.authors.now c.channel_of.result.now c.index-authors-index.result names
    c.index.ensures.place (omega (arith, c.index.ensures.below, c.requires)) c.index-authors-index.is c.channel_of.ensures are in (
      prints_on _ _ _ _ _ _ _ so_far.0 (rw (c.channel_of.ensures, number) at (c.print_history.ensures.text workers here))
          (walk_more (channel_events workers c.args.channels.now) channel_number c.loop-place.place),
      below_more (λ (k : ℕ). All FitsItsLine (printed_events (channel_number k) workers (history_on (channel_number k) c.args.channels.now)))
          c.loop-place.place so_far.1 (rw (c.channel_of.ensures, number) at (c.print_history.ensures.fits workers here)),
    )

pub returns : goal.returns
unfolding all_channels
returns g c =
    let all : c.loop-place.place ≡ channel_count = omega arith in record {
      text = λ workers are. subst (λ (k : ℕ). Prints g.W.Write.contents c.args.text.now c.loop-place.text (flat_map (channel_events workers c.args.channels.now) (tabulate k channel_number))) all (c.loop-place.invariant workers are).0;
      fits = λ workers are n is.
          let within : channel_index n < c.loop-place.place = omega (arith, channel_places.place_below n is) in
          subst (λ (k : ℕ). All FitsItsLine (printed_events k workers (history_on k c.args.channels.now))) (channel_places.number_of_place n is)
          ((c.loop-place.invariant workers are).1 (channel_index n) within);
    }
