use Rattle.std.proofs.Common.{◌≡◌, sym, subst}
use Rattle.pp_line.specs.ChannelWord.{number_in, flags_in}
use Rattle.pp_line.specs.LineLog.{LogState, looked, look_entry}
use Rattle.pp_line.specs.LineState.{LineState}
use Rattle.pp_line.specs.LineSteps.{IsLogOf, IsLoad}
use Rattle.pp_line.specs.declared.rule.LineView.{LineView}
use Rattle.pp_line.proofs.LineKeeping.{log_of_look}
use Rattle.pp_line.proofs.line.Line.look.Goals as goal

pub returns-clause-log_after : goal.returns-clause-log_after
returns-clause-log_after g c =
    let found = subst (λ (line : LineState). (v : LineView) × IsLogOf v line.log.entries × IsLoad c.args.channel v c.args.word line.view) (sym c.self.view_is) c.requires.found in
    let written : c.saw.new.self ≡ looked c.self.inside.log (look_entry c.args.channel (number_in c.args.word) (flags_in c.args.word)) = rw (← c.number_in.ensures.value, ← c.flags_in.ensures) c.saw.ensures in
    subst (λ (log : LogState). IsLogOf c.self.inside.words.seat.me.0 log.entries) (sym written) (log_of_look c.self.inside.log c.args.channel c.args.word found.1 found.2)

pub invariant_of-self : goal.invariant_of-self
invariant_of-self g c = (c.self.invariant.0, c.self.invariant.1, c.self.invariant.2, returns-clause-log_after g c)
