-- A text that goes out in pieces: what the writer has of it, and what is held back.
use Rattle.std.specs.Prelude.{◌≡◌, ℕ, true, false, List, ◌++◌, Option}
use Rattle.std.specs.Io.KnownBytes.{Appends}
use Rattle.pp_text.specs.Written.{AppendsFront}
use Rattle.pp_text.specs.declared.text_writer.TextWriter.{TextWriter}

-- So far this text has been printed, on a writer that began with these bytes: the writer has all of
-- the text but the piece that is held back, or else it has failed, and has a part of the text.
pub record HasPrinted {W : Type 0} (contents : W → Option (List ℕ)) (start : Option (List ℕ))
    (text : List ℕ) (out : TextWriter W) : Type 0 where
  pub whole : out.failed ≡ false → (written : List ℕ) × (text ≡ written ++ out.piece)
      × Appends start (contents out.writer.now) written
  pub front : out.failed ≡ true → AppendsFront start (contents out.writer.now) text

-- whatever has been printed, this text is printed after it, on the same writer
pub record Prints {W : Type 0} (contents : W → Option (List ℕ)) (old new : TextWriter W)
    (text : List ℕ) : Type 0 where
  pub same_writer : new.writer.ghost_name ≡ old.writer.ghost_name
  pub goes_on : (start : Option (List ℕ)) (before : List ℕ) → HasPrinted contents start before old
      → HasPrinted contents start (before ++ text) new
