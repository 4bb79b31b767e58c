-- What is printed, and how many places pass a test, of 0, of 1, .. and of one more number.
use Rattle.std.proofs.Common.{◌≡◌, ℕ, ◌+◌, ◌≤◌, Bool, true, false, List, ◌++◌, Option, refl, ap, ◌∙◌, add-one, arith}
use Rattle.std.specs.Int.{from_bool}
use Rattle.pp_text.specs.PrintedText.{each_below}
use Rattle.pp_text.specs.TextWriter.{Prints}
use Rattle.pp_text.specs.declared.text_writer.TextWriter.{TextWriter}
use Rattle.pp_text.proofs.PrintingLemmas.{each_below_suc, each_below_zero, prints_nothing, prints_on}
use Rattle.pp_draw.specs.DrawingText.{count_below}

pub none_printed : {W : Type 0} (contents : W → Option (List ℕ)) (out : TextWriter W) (said : ℕ → List ℕ) → Prints contents out out (each_below 0 said)
none_printed contents out said = rw (each_below_zero said) (prints_nothing contents out)

pub one_printed : {W : Type 0} (contents : W → Option (List ℕ)) (start old new : TextWriter W) (said : ℕ → List ℕ) (k : ℕ) (text : List ℕ) → Prints contents start old (each_below k said) → Prints contents old new text → text ≡ said k
    → Prints contents start new (each_below (k + 1) said)
one_printed contents start old new said k text so_far prints is =
    prints_on contents start old new (each_below k said) text (each_below (k + 1) said) so_far prints (ap (λ (t : List ℕ). each_below k said ++ t) is ∙ each_below_suc k said)

pub none_below : (test : ℕ → Bool) → 0 ≡ count_below 0 test
unfolding count_below
none_below test = refl

pub one_more : (k : ℕ) (test : ℕ → Bool) → count_below k test + from_bool (test k) ≡ count_below (k + 1) test
unfolding count_below
one_more k test = rw (add-one) refl

pub one_at_most : (b : Bool) → from_bool b ≤ 1
one_at_most true = omega arith
one_at_most false = omega arith
