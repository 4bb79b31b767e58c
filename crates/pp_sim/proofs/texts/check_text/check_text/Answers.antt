use Rattle.std.proofs.Common.{ℕ, List, Option, Some, None, Ok, Err, refl, arith, rules}
use Rattle.std.specs.Prelude.{IfSome}
use Rattle.std.specs.Io.KnownBytes.{Consumes, IsAtEnd}
use Rattle.std.proofs.lemmas.List.{append-nil}
use Rattle.std.proofs.lemmas.Result.{err_from_is_err_and}
use Rattle.pp_sim.specs.CheckText.{IsCheck}
use Rattle.pp_sim.specs.declared.text_fault.TextFault.TheVariants.{Write}
use Rattle.pp_sim.proofs.texts.check_text.check_text.Goals as goal

-- what holds of the bytes that were read holds of all that a reader had, which is at its end
of_all : (Holds : List ℕ → Type 0) (before after : Option (List ℕ)) (bytes : List ℕ) → Holds bytes → Consumes before after bytes → IsAtEnd after → IfSome before Holds
of_all Holds None after bytes holds consumed end = tt
of_all Holds (Some all) None bytes holds consumed end = absurd consumed
of_all Holds (Some all) (Some rest) bytes holds consumed end = grind (arith, append-nil)

pub returns-in-Ok : goal.returns-in-Ok
returns-in-Ok g c =
    let check : IsCheck c.args.opened.now (Ok tt) c.as_slice.result.now (g.W.Write.contents c.args.writer.now) (g.W.Write.contents c.write_verdict.new.writer) = search rules in
    let read = rw c.as_slice.ensures.value at check in
    record {
      every_reader = (c.in_ok-trace.trace.items, record { consumed = c.in_ok-trace.ensures.read; answered = read; whole = c.in_ok-trace.ensures.end });
      known_reader = of_all (λ bytes. IsCheck c.args.opened.now (Ok tt) bytes _ _) _ _ c.in_ok-trace.trace.items read c.in_ok-trace.ensures.read c.in_ok-trace.ensures.end;
      unwritten = tt;
    }

pub returns-in_err-write_verdict-in-Ok : goal.returns-in_err-write_verdict-in-Ok
returns-in_err-write_verdict-in-Ok g c =
    let p = err_from_is_err_and c.from_residual-in_err-write_verdict-in-Ok.result c.from_residual-in_err-write_verdict-in-Ok.ensures.1 in
    let check : IsCheck c.args.opened.now (Err Write) c.as_slice.result.now (g.W.Write.contents c.args.writer.now) (g.W.Write.contents c.write_verdict.new.writer) = search rules in
    let read = rw c.as_slice.ensures.value at check in
    rw (p.1, p.2) (record {
      every_reader = (c.in_ok-trace.trace.items, record { consumed = c.in_ok-trace.ensures.read; answered = read; whole = c.in_ok-trace.ensures.end });
      known_reader = of_all (λ bytes. IsCheck c.args.opened.now (Err Write) bytes _ _) _ _ c.in_ok-trace.trace.items read c.in_ok-trace.ensures.read c.in_ok-trace.ensures.end;
      unwritten = λ other. absurd (other refl);
    })
