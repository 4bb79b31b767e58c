use Rattle.std.proofs.Common.{sym}
use Rattle.pp_channel.specs.History.{history_on}
use Rattle.pp_channel.proofs.EachHistory.{lawful_on}
use Rattle.pp_report.proofs.LoadedLemmas.{not_run}
use Rattle.pp_report.proofs.promises.headline_law.Goals as goal

pub returns : goal.returns
returns g c profile text deck is =
    let holds = c.deck_law.ensures.law profile text deck is in
    let m = deck.machine in
    record {
      steps = λ ns. c.run_law.ensures ns m holds.each_channel (c.deck_law.ensures.machine profile text deck is).headline;
      threads = λ limits report said. record {
        channels = λ n names.
            let lawful = lawful_on report.channels n said.lawful in
            record { traced = sym (said.total.each_history n); lawful = lawful; law = c.session_law.ensures (history_on n report.channels) lawful };
        steps = c.serial_law.ensures limits m report (not_run _ deck holds) said;
      };
    }
