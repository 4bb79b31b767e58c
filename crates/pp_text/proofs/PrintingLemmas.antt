-- Texts that are printed one after another.
use Rattle.std.proofs.Common.{◌≡◌, ℕ, zero, suc, ◌+◌, ◌<◌, List, [], ◌∷◌, ◌++◌, Option, get_or, length, take, refl, sym, ap, ◌∙◌, add-one, append_assoc, arith, subst}
use Rattle.std.specs.Prelude.{if◌then◌else◌}
use Rattle.std.specs.List.{flat_map, range_with_len}
use Rattle.std.proofs.lemmas.List.{append-nil, take_more}
use Rattle.std.proofs.lemmas.List.Concat.{flat_map-append}
use Rattle.pp_numbers.proofs.GrowingLists.{range_more, tabulate_more}
use Rattle.pp_numbers.specs.Tables.{tabulate}
use Rattle.pp_numbers.specs.GappedNumbers.{is_number, number_of}
use Rattle.pp_numbers.specs.ChannelNo.{all_channels, channel_number, names_channel}
use Rattle.pp_numbers.proofs.ChannelNoLemmas.{numbers_of_channels}
use Rattle.pp_channel.specs.declared.event.Event.{Event}
use Rattle.pp_text.specs.PrintedText.{each_below, used_channel_line}
use Rattle.pp_text.specs.TextWriter.{Prints}
use Rattle.pp_text.specs.declared.text_writer.TextWriter.{TextWriter}

-- nothing more
pub prints_nothing : {W : Type 0} (contents : W → Option (List ℕ)) (out : TextWriter W)
    → Prints contents out out []
prints_nothing contents out = grind (arith, append-nil)

-- one text and then another
pub prints_then : {W : Type 0} (contents : W → Option (List ℕ)) (a b c : TextWriter W)
    (xs ys : List ℕ) → Prints contents a b xs → Prints contents b c ys
    → Prints contents a c (xs ++ ys)
prints_then contents a b c xs ys h k = grind (arith, append_assoc)

-- the same, between the two
infixl 10 ◌▹◌
pub ◌▹◌ : {W : Type 0} {contents : W → Option (List ℕ)} {a b c : TextWriter W} {xs ys : List ℕ}
    → Prints contents a b xs → Prints contents b c ys → Prints contents a c (xs ++ ys)
first ▹ second = prints_then _ _ _ _ _ _ first second

-- some of a text, and then what makes it this text
pub prints_on : {W : Type 0} (contents : W → Option (List ℕ)) (a b c : TextWriter W)
    (xs ys text : List ℕ) → Prints contents a b xs → Prints contents b c ys → xs ++ ys ≡ text
    → Prints contents a c text
prints_on contents a b c xs ys text h k is =
    subst (Prints contents a c) is (prints_then contents a b c xs ys h k)

-- what there is of no number
pub each_below_zero : {X : Type 0} (said : ℕ → List X) → each_below 0 said ≡ []
unfolding each_below
each_below_zero said = refl

-- what there is so far, and of one more number
pub each_below_suc : {X : Type 0} (k : ℕ) (said : ℕ → List X)
    → each_below k said ++ said k ≡ each_below (k + 1) said
unfolding each_below
each_below_suc k said = rw (add-one) refl

-- what comes of some numbers, and of one more
pub range_flat : {X : Type 0} (f : ℕ → List X) (a k next : ℕ) → next ≡ a + k
    → flat_map f (range_with_len a k) ++ f next ≡ flat_map f (range_with_len a (k + 1))
range_flat {X} f a k next is = grind (arith, append-nil, flat_map-append, range_more)

-- what comes of the first things of a list, and of the next
pub flat_taken : {X : Type 0} (f : X → List ℕ) (xs : List X) (k : ℕ) (d x : X) → k < length xs
    → x ≡ get_or xs k d → flat_map f (take k xs) ++ f x ≡ flat_map f (take (k + 1) xs)
flat_taken f xs k d x within is = rw (is, take_more xs k d within, flat_map-append, append-nil) refl

-- the lines of 0, of 1, .. and those of one more number
pub prints_more : {W X : Type 0} (contents : W → Option (List ℕ)) (a b c : TextWriter W)
    (line : X → List ℕ) (f : ℕ → List X) (k : ℕ)
    → Prints contents a b (flat_map line (flat_map f (range_with_len 0 k)))
    → Prints contents b c (flat_map line (f k))
    → Prints contents a c (flat_map line (flat_map f (range_with_len 0 (k + 1))))
prints_more contents a b c line f k h step =
    prints_on contents a b c _ _ _ h step
    (sym (flat_map-append line (flat_map f (range_with_len 0 k)) (f k))
    ∙ ap (flat_map line) (range_flat f 0 k k (omega arith)))

-- the lines of all numbers below a count
pub prints_all : {W X : Type 0} (contents : W → Option (List ℕ)) (a b : TextWriter W)
    (line : X → List ℕ) (f : ℕ → List X) (k count : ℕ) → k ≡ count
    → Prints contents a b (flat_map line (flat_map f (range_with_len 0 k)))
    → Prints contents a b (flat_map line (flat_map f (range_with_len 0 count)))
prints_all contents a b line f k count is h = grind arith

-- ---- what is printed of all channels, of all processors

-- of none yet, and of one more
pub walk_zero : {X : Type 0} (line : ℕ → List X) (number : ℕ → ℕ)
    → flat_map line (tabulate 0 number) ≡ []
unfolding tabulate
walk_zero line number = refl

pub walk_more : {X : Type 0} (line : ℕ → List X) (number : ℕ → ℕ) (k : ℕ)
    → flat_map line (tabulate k number) ++ line (number k)
    ≡ flat_map line (tabulate (k + 1) number)
walk_more {X} line number k = grind (arith, tabulate_more, flat_map-append, append-nil)

-- the lines of lines of each
pub flat_of_flat : {X : Type 0} (line : X → List ℕ) (f : ℕ → List X) (ks : List ℕ)
    → flat_map (λ k. flat_map line (f k)) ks ≡ flat_map line (flat_map f ks)
flat_of_flat line f [] = refl
flat_of_flat line f (k ∷ ks) = grind (arith, flat_map-append, flat_of_flat line f ks)

-- what there is of numbers from 0 on, one after another
pub each_is_flat : (k : ℕ) (f : ℕ → List ℕ) → each_below k f ≡ flat_map f (range_with_len 0 k)
unfolding each_below
each_is_flat zero f = refl
each_is_flat (suc k) f = grind (arith, range_flat, add-one, each_is_flat k f)

-- lines of each number below a count
pub prints_lines_below : {W X : Type 0} (contents : W → Option (List ℕ)) (a b : TextWriter W)
    (line : X → List ℕ) (f : ℕ → List X) (count : ℕ)
    → Prints contents a b (each_below count (λ k. flat_map line (f k)))
    → Prints contents a b (flat_map line (flat_map f (range_with_len 0 count)))
prints_lines_below contents a b line f count prints = grind (arith, each_is_flat, flat_of_flat)

-- the line of the channel with this number, if there is one
abbrev pub numbered_channel_line : List (List Event) → ℕ → List ℕ
numbered_channel_line histories c =
    if names_channel c then used_channel_line histories c else []

pub channels_by_number : (f : ℕ → List ℕ)
    → flat_map f all_channels
    ≡ flat_map (λ c. if names_channel c then f c else []) (range_with_len 0 0o100)
unfolding all_channels tabulate channel_number names_channel is_number number_of
channels_by_number f = grind (arith, numbers_of_channels)
