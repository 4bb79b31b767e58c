-- The words of a text, one after another.
use Rattle.std.proofs.Common.{◌≡◌, ◌∙◌, ℕ, ◌==◌, ◌<◌, All, List, [], ◌∷◌, ◌++◌, ap, arith, false, get_or, length, map, refl}
use Rattle.std.specs.Borrow.{Bor}
use Rattle.std.specs.Prelude.{◌≢◌}
use Rattle.std.specs.List.{slice_split}
use Rattle.std.proofs.lemmas.Grind.{common_steps}
use Rattle.std.proofs.lemmas.List.Splits.{slice_split_at, slice_split_none}
use Rattle.ppsim_library.specs.Answered.{parts_of}

abbrev pub Lacks : List ℕ → Type 0
Lacks text = (i : ℕ) → i < length text → get_or text i 0 ≢ 0

each_other : (text : List ℕ) → Lacks text → All (λ byte. (byte == 0) ≡ false) text
each_other text lacks = λ k d below. let other = lacks k below in grind (arith, common_steps)

pub first_word : (text word others : List ℕ) → text ≡ word ++ 0 ∷ others → Lacks word → parts_of text ≡ word ∷ parts_of others
unfolding parts_of
first_word text word others parts lacks =
    ap (slice_split (λ byte. byte == 0)) parts ∙ slice_split_at (λ byte. byte == 0) word 0 others (each_other word lacks) refl

pub last_word : (text : List ℕ) → Lacks text → parts_of text ≡ text ∷ []
unfolding parts_of
last_word text lacks = slice_split_none (λ byte. byte == 0) text (each_other text lacks)

pub one_more : (words : List (Bor (List ℕ))) (word : Bor (List ℕ)) (others : List (List ℕ)) → map (λ word. word.now) (words ++ word ∷ []) ++ others ≡ map (λ word. word.now) words ++ word.now ∷ others
one_more [] word others = refl
one_more (first ∷ words) word others = ap (λ (rest : List (List ℕ)). first.now ∷ rest) (one_more words word others)
