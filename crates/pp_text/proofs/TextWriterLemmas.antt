-- What a text writer has printed.
use Rattle.std.proofs.Common.{◌≡◌, ℕ, true, false, List, [], ◌++◌, Option, Result, Ok, Err, sym, ap, ◌∙◌, append_assoc, arith, length-append}
use Rattle.std.proofs.Math.Seq.{take-append-le}
use Rattle.std.proofs.lemmas.List.{append-nil}
use Rattle.std.proofs.KnownBytes.{Appends-trans}
use Rattle.std.specs.Result.{is_err}
use Rattle.pp_text.specs.TextWriter.{Prints}
use Rattle.pp_text.specs.Written.{IsWritten}
use Rattle.pp_text.specs.declared.text_writer.TextWriter.{TextWriter}
use Rattle.pp_text.proofs.WriteLemmas.{front_then}

-- a writer that failed stays as it is
pub prints_lost : {W : Type 0} (contents : W → Option (List ℕ)) (a b : TextWriter W) → a.failed ≡ true → b.failed ≡ true → b.writer ≡ a.writer → Prints contents a b []
prints_lost contents a b failed fails same = grind (arith, append-nil)

-- the piece that was held back goes out, or a front of it, where the writer fails
pub prints_sent : {W E : Type 0} (contents : W → Option (List ℕ)) (a b : TextWriter W) (r : Result (Unit {0}) E) → a.failed ≡ false → b.writer.ghost_name ≡ a.writer.ghost_name → b.failed ≡ is_err r → b.piece ≡ []
    → IsWritten a.piece r (contents a.writer.now) (contents b.writer.now) → Prints contents a b []
prints_sent contents a b (Ok done) going same goes empty out = record {
  same_writer = same;
  goes_on = λ start before so_far. record {
    whole = λ not.
        let (written, all, had) = so_far.whole going in
        (written ++ a.piece, rw (append-nil before, empty, append-nil (written ++ a.piece)) all, Appends-trans start (contents a.writer.now) (contents b.writer.now) written a.piece had out);
    front = λ is. absurd (cc);
  };
}
prints_sent contents a b (Err fault) going same fails empty out = record {
  same_writer = same;
  goes_on = λ start before so_far. record {
    whole = λ not. absurd (cc);
    front = λ is.
        let (written, all, had) = so_far.whole going in
        rw (append-nil before, all) (front_then start (contents a.writer.now) (contents b.writer.now) written a.piece had out);
  };
}

-- what is held back grows, where nothing was printed before
pub prints_held : {W : Type 0} {contents : W → Option (List ℕ)} {a b : TextWriter W} (piece more : List ℕ) → Prints contents a b [] → piece ≡ b.piece ++ more → Prints contents a (record { writer = b.writer; piece = piece; failed = b.failed }) more
prints_held {b = b} piece more nothing is = record {
  same_writer = nothing.same_writer;
  goes_on = λ start before so_far.
      let now = rw append-nil at (nothing.goes_on start before so_far) in record {
        whole = λ going. let (written, all, had) = now.whole going in (written, ap (λ xs. xs ++ more) all ∙ append_assoc written b.piece more ∙ ap (λ xs. written ++ xs) (sym is), had);
        front = λ failed. let (count, within, had) = now.front failed in (count, omega (arith, within, length-append before more), rw (take-append-le count before more within) had);
      };
}
