use Rattle.std.proofs.Common.{ℕ, length, sym, subst, arith}
use Rattle.pp_runner.proofs.AccessLemmas.{local_answer, read_answer, write_answer}
use Rattle.pp_runner.proofs.LineLemmas.{operated_acted, operated_worn, same_line_acted}
use Rattle.pp_runner.proofs.ReplyLemmas.{acted_answer}
use Rattle.pp_runner.specs.WorkerState.{IsAnswered}
use Rattle.pp_runner.specs.Types.{Answer, Need}
use Rattle.pp_runner.proofs.worker_state.ask.Goals as goal

pub returns-in_ok-numbered-in-Channel-clause-same_line : goal.returns-in_ok-numbered-in-Channel-clause-same_line
returns-in_ok-numbered-in-Channel-clause-same_line g c = grind (arith, same_line_acted)

pub returns-in_ok-numbered-in-Channel-clause-operated : goal.returns-in_ok-numbered-in-Channel-clause-operated
returns-in_ok-numbered-in-Channel-clause-operated g c = grind (arith, operated_acted)

pub returns-in_err-numbered-in-Channel-clause-operated : goal.returns-in_err-numbered-in-Channel-clause-operated
returns-in_err-numbered-in-Channel-clause-operated g c = grind (arith, operated_worn)

pub returns-in-Nothing-clause-answered : goal.returns-in-Nothing-clause-answered
returns-in-Nothing-clause-answered g c = local_answer (length c.args.line.now.view.central) c.args.needed c.args.line.now c.in-Nothing.is

pub returns-in_ok-numbered-in-Channel-clause-answered : goal.returns-in_ok-numbered-in-Channel-clause-answered
returns-in_ok-numbered-in-Channel-clause-answered g c =
    let size : ℕ = length c.args.line.now.view.central in
    let numbered = c.in_ok-numbered-in-Channel.numbered in
    subst (λ (n : Need). IsAnswered size n (Answer.Channel numbered.reply) c.args.line.now c.act.new.self) (sym c.in-Channel.is)
    (acted_answer size c.in-Channel.channel c.in-Channel.op numbered c.args.line.now c.act.new.self c.in_ok-numbered-in-Channel.ensures.ok c.act.ensures.monotone)

pub returns-in-Read-clause-answered : goal.returns-in-Read-clause-answered
returns-in-Read-clause-answered g c = grind (arith, read_answer)

pub returns-in-Write-clause-answered : goal.returns-in-Write-clause-answered
returns-in-Write-clause-answered g c =
    let size : ℕ = length c.args.line.now.view.central in
    subst (λ (n : Need). IsAnswered size n (Answer.Wrote c.write.result) c.args.line.now c.write.new.self) (sym c.in-Write.is)
    (write_answer size c.in-Write.address c.in-Write.word c.write.result c.args.line.now c.write.new.self c.write.ensures.inside c.write.ensures.written)
