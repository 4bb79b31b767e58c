use Rattle.std.proofs.Common.{subst, sym}
use Rattle.pp_deck.specs.DeckLaw.{NamesWithin}
use Rattle.pp_numbers.specs.declared.profile.Profile.{Profile}
use Rattle.pp_report.proofs.LoadedLemmas.{lacked_rests, not_run}
use Rattle.pp_laws.proofs.OneRunLemmas.{is_quiet, leads_alike, over_at_rest, shows_parts}
use Rattle.pp_laws.proofs.orders.one_run_law.Goals as goal

pub returns : goal.returns
returns g c = record {
  parts = λ profile text deck ns limits report is tells said.
      let holds = c.deck_law.ensures.law profile text deck is in
      let serial = c.serial_law.ensures limits deck.machine report (not_run _ deck holds) said in
      shows_parts serial.0 deck.machine report said.order serial.1.leads ns (c.determinacy_law.ensures.parts ns serial.0 deck.machine holds.each_processor holds.each_channel tells);
  result = λ profile text deck ns limits report is tells said over.
      let holds = c.deck_law.ensures.law profile text deck is in
      let m = deck.machine in
      let serial = c.serial_law.ensures limits m report (not_run _ deck holds) said in
      let names = subst (λ (p : Profile). NamesWithin p deck.named) (sym (c.deck_law.ensures.profile profile text deck is)) (c.deck_law.ensures.names profile text deck is) in
      let quiet = is_quiet serial.0 m report said.order serial.1.leads said.each_processor (lacked_rests _ deck holds names) over in
      leads_alike serial.0 m report said.order serial.1.leads ns holds.each_processor holds.each_channel
      (c.determinacy_law.ensures.result ns serial.0 m holds.each_processor holds.each_channel tells quiet);
  rest = over_at_rest;
}
