-- What a text is made of, piece by piece; so made, it tells what it shows.
use Rattle.std.proofs.Common.{All, ◌≡◌, ◌∙◌, ℕ, zero, suc, ◌+◌, ◌^◌, ◌<◌, ◌≤◌, Bool, true, List, [], ◌∷◌, ◌++◌, Option, None, Some, length, map, refl, sym, ap, arith, append-nil, append_assoc}
use Rattle.std.specs.Prelude.{◌==◌, ◌&&◌, IfSome, get_or, nat_le, nat_lt, not, if◌then◌else◌}
use Rattle.std.specs.List.{flat_map, list_all, range_with_len}
use Rattle.std.specs.Option.{option_to_list}
use Rattle.std.proofs.lemmas.Bool.{and_parts, ne_eqb}
use Rattle.std.proofs.lemmas.List.Elements.{All-append, All-cons, All-head, All-map, All-nil, All-tail}
use Rattle.std.proofs.lemmas.Grind.{flat_map-append}
use Rattle.pp_word.specs.Numeral.{decimal, is_digit, octal, short_decimal, unpadded, value_of}
use Rattle.pp_word.proofs.NumeralLemmas.{decimal_are, decimal_long, decimal_numeral}
use Rattle.pp_text.proofs.Telling.{Tells, cut, decimal_digit, octal_tells, parts_tell, short_decimal_pass, short_decimal_value, unpadded_pass, unpadded_value}

-- what shows a thing that fits, and tells it, where what follows is clear of it
pub record Format {X : Type 0} (Fits : X → Type 0) : Type 1 where
  pub text : X → List ℕ
  pub clear : X → List ℕ → Bool
  pub tells : (x y : X) (r s : List ℕ) → Fits x → Fits y → clear x r ≡ true → clear y s ≡ true
      → text x ++ r ≡ text y ++ s → (x ≡ y) × (r ≡ s)

-- what shows a part of it, and tells that it is the same part
pub record Piece {X : Type 0} (Fits : X → Type 0) : Type 1 where
  pub text : X → List ℕ
  pub clear : X → List ℕ → Bool
  pub Same : X → X → Type 0
  pub tells : (x y : X) (r s : List ℕ) → Fits x → Fits y → clear x r ≡ true → clear y s ≡ true
      → text x ++ r ≡ text y ++ s → Same x y × (r ≡ s)

pub format_tells : {X : Type 0} {Fits : X → Type 0} (F : Format Fits) (x y : X) → Fits x → Fits y → F.clear x [] ≡ true → F.clear y [] ≡ true → F.text x ≡ F.text y → x ≡ y
format_tells F x y fits also ends other e = (F.tells x y [] [] fits also ends other (ap (λ t. t ++ []) e)).0

-- and of pieces of a whole text
pub piece_tells : {X : Type 0} {Fits : X → Type 0} (P : Piece Fits) → ((x : X) → P.clear x [] ≡ true) → (x y : X) → Fits x → Fits y → P.text x ≡ P.text y → P.Same x y
piece_tells P ends x y fits also e = (P.tells x y [] [] fits also (ends x) (ends y) (ap (λ t. t ++ []) e)).0

-- ---- pieces

infixl 5 ◌▷◌
infixl 5 ◌▸◌
abbrev pub mark : {X : Type 0} {Fits : X → Type 0} → List ℕ → Piece Fits
mark t = record { text = λ x. t; clear = λ x r. true; Same = λ x y. Unit {0}; tells = λ x y r s _ _ _ _ e. (tt, (parts_tell t t r s refl e).1) }

-- a part in a format of its own
abbrev pub field : {X Y : Type 0} {Fits : X → Type 0} {Shows : Y → Type 0} → Format Shows → (f : X → Y) → ((x : X) → Fits x → Shows (f x)) → Piece Fits
field F f fits = record { text = λ x. F.text (f x); clear = λ x r. F.clear (f x) r; Same = λ x y. f x ≡ f y; tells = λ x y r s one other. F.tells (f x) (f y) r s (fits x one) (fits y other) }

-- a piece of a part of it
abbrev pub within : {X Y : Type 0} {Fits : X → Type 0} {Shows : Y → Type 0} → Piece Shows → (f : X → Y) → ((x : X) → Fits x → Shows (f x)) → Piece Fits
within P f fits = record { text = λ x. P.text (f x); clear = λ x r. P.clear (f x) r; Same = λ x y. P.Same (f x) (f y); tells = λ x y r s one other. P.tells (f x) (f y) r s (fits x one) (fits y other) }

pub both_tell : {X : Type 0} {Fits : X → Type 0} (P Q : Piece Fits) (x y : X) (r s : List ℕ) → Fits x → Fits y → (P.clear x (Q.text x ++ r) && Q.clear x r) ≡ true → (P.clear y (Q.text y ++ s) && Q.clear y s) ≡ true
    → (P.text x ++ Q.text x) ++ r ≡ (P.text y ++ Q.text y) ++ s → (P.Same x y × Q.Same x y) × (r ≡ s)
both_tell P Q x y r s fits also ends other e =
    let one = and_parts (P.clear x (Q.text x ++ r)) (Q.clear x r) ends in
    let two = and_parts (P.clear y (Q.text y ++ s)) (Q.clear y s) other in
    let first = P.tells x y (Q.text x ++ r) (Q.text y ++ s) fits also one.0 two.0 (sym (append_assoc (P.text x) (Q.text x) r) ∙ e ∙ append_assoc (P.text y) (Q.text y) s) in
    let second = Q.tells x y r s fits also one.1 two.1 first.1 in
    ((first.0, second.0), second.1)

-- one after another
abbrev pub ◌▷◌ : {X : Type 0} {Fits : X → Type 0} → Piece Fits → Piece Fits → Piece Fits
◌▷◌ P Q = record { text = λ x. P.text x ++ Q.text x; clear = λ x r. P.clear x (Q.text x ++ r) && Q.clear x r; Same = λ x y. P.Same x y × Q.Same x y; tells = both_tell P Q }

pub marked_tell : {X : Type 0} {Fits : X → Type 0} (P : Piece Fits) (t : List ℕ) (x y : X) (r s : List ℕ) → Fits x → Fits y → P.clear x (t ++ r) ≡ true → P.clear y (t ++ s) ≡ true
    → (P.text x ++ t) ++ r ≡ (P.text y ++ t) ++ s → P.Same x y × (r ≡ s)
marked_tell P t x y r s fits also ends other e =
    let first = P.tells x y (t ++ r) (t ++ s) fits also ends other (sym (append_assoc (P.text x) t r) ∙ e ∙ append_assoc (P.text y) t s) in
    (first.0, (parts_tell t t r s refl first.1).1)

-- and then these characters
abbrev pub ◌▸◌ : {X : Type 0} {Fits : X → Type 0} → Piece Fits → List ℕ → Piece Fits
◌▸◌ P t = record { text = λ x. P.text x ++ t; clear = λ x r. P.clear x (t ++ r); Same = P.Same; tells = marked_tell P t }

-- ---- formats

-- that of pieces, which tell the whole
abbrev pub whole : {X : Type 0} {Fits : X → Type 0} → (P : Piece Fits) → ((x y : X) → P.Same x y → x ≡ y) → Format Fits
whole P same = record { text = P.text; clear = P.clear; tells = λ x y r s fits also ends other e. let told = P.tells x y r s fits also ends other e in (same x y told.0, told.1) }

-- one that tells, whatever follows
abbrev pub always : {X : Type 0} {Fits : X → Type 0} → (text : X → List ℕ) → Tells Fits text → Format Fits
always text tells = record { text = text; clear = λ x r. true; tells = λ x y r s fits also _ _ e. tells x y r s fits also e }

abbrev pub octals : (width : ℕ) → Format (λ n. n < 8 ^ width)
octals width = always (octal width) (octal_tells width)

-- so many characters
abbrev pub characters : (n : ℕ) → Format (λ (t : List ℕ). length t ≡ n)
characters n = always (λ t. t) (λ x y r s long other e. parts_tell x y r s (long ∙ sym other) e)

-- of which all that follows is clear
abbrev pub closed : {X : Type 0} {Fits : X → Type 0} → (F : Format Fits) → ((x : X) (r : List ℕ) → F.clear x r ≡ true) → Format Fits
closed F clear = always F.text (λ x y r s fits also e. F.tells x y r s fits also (clear x r) (clear y s) e)

abbrev pub no_digit : List ℕ → Bool
no_digit r = not (is_digit 10 (get_or r 0 0))

pub run_tells : {X : Type 0} {Fits : X → Type 0} (p : ℕ → Bool) (text : X → List ℕ) (back : List ℕ → X) → ((x : X) → Fits x → list_all p (text x) ≡ true) → ((x : X) → Fits x → back (text x) ≡ x)
    → (x y : X) (r s : List ℕ) → Fits x → Fits y → not (p (get_or r 0 0)) ≡ true → not (p (get_or s 0 0)) ≡ true → text x ++ r ≡ text y ++ s → (x ≡ y) × (r ≡ s)
run_tells p text back are read x y r s fits also ends other e = grind (arith, cut)

-- characters that pass a test, up to one that does not, which are read back
abbrev pub run_of : {X : Type 0} {Fits : X → Type 0} (p : ℕ → Bool) (text : X → List ℕ) (back : List ℕ → X) → ((x : X) → Fits x → list_all p (text x) ≡ true) → ((x : X) → Fits x → back (text x) ≡ x) → Format Fits
run_of p text back are read = record { text = text; clear = λ x r. not (p (get_or r 0 0)); tells = run_tells p text back are read }

abbrev pub decimals : Format (λ n. n < 2 ^ 64)
decimals = run_of (is_digit 10) decimal (value_of 10) (λ n _. decimal_are n) (λ n low. (decimal_numeral n low).value)

abbrev pub short_decimals : Format (λ n. n < 2 ^ 64)
short_decimals = run_of (is_digit 10) short_decimal (value_of 10) (λ n _. short_decimal_pass (is_digit 10) decimal_digit n) (λ n low. short_decimal_value n (omega (arith, low)))

abbrev pub unpaddeds : (most : ℕ) → Format (λ n. n < 10 ^ most)
unpaddeds most = run_of (is_digit 10) (unpadded most) (value_of 10) (λ n _. unpadded_pass (is_digit 10) decimal_digit most n) (unpadded_value most)

-- a thing that is shown, where a text passes a test, or these characters
abbrev pub maybe_text : {X : Type 0} → (X → List ℕ) → List ℕ → Option X → List ℕ
maybe_text text none None = none
maybe_text text none (Some x) = text x

abbrev pub maybe_clear : {X : Type 0} → (X → List ℕ → Bool) → List ℕ → (List ℕ → Bool) → Option X → List ℕ → Bool
maybe_clear clear none test None r = not (test (none ++ r))
maybe_clear clear none test (Some x) r = clear x r

pub maybe_tells : {X : Type 0} {Fits : X → Type 0} (F : Format Fits) (none : List ℕ) (test : List ℕ → Bool) → ((x : X) (r : List ℕ) → Fits x → test (F.text x ++ r) ≡ true) → (x y : Option X) (r s : List ℕ) → IfSome x Fits → IfSome y Fits
    → maybe_clear F.clear none test x r ≡ true → maybe_clear F.clear none test y s ≡ true → maybe_text F.text none x ++ r ≡ maybe_text F.text none y ++ s → (x ≡ y) × (r ≡ s)
maybe_tells F none test front None None r s _ _ _ _ e = (refl, (parts_tell none none r s refl e).1)
maybe_tells F none test front (Some x) (Some y) r s fits also ends other e = let told = F.tells x y r s fits also ends other e in (ap Some told.0, told.1)
maybe_tells F none test front x y r s fits also ends other e = grind (arith, front)

abbrev pub maybe : {X : Type 0} {Fits : X → Type 0} → (F : Format Fits) (none : List ℕ) (test : List ℕ → Bool) → ((x : X) (r : List ℕ) → Fits x → test (F.text x ++ r) ≡ true) → Format (λ o. IfSome o Fits)
maybe F none test front = record { text = maybe_text F.text none; clear = maybe_clear F.clear none test; tells = maybe_tells F none test front }

-- as many as there are, each where a text passes a test; each may be followed by what passes another
pub many_tell : {X : Type 0} {Fits : X → Type 0} (F : Format Fits) (test after : List ℕ → Bool) → ((x : X) (r : List ℕ) → Fits x → (test (F.text x ++ r) && after (F.text x ++ r)) ≡ true)
    → ((x : X) (r : List ℕ) → after r ≡ true → F.clear x r ≡ true) → (xs ys : List X) (r s : List ℕ) → All Fits xs → All Fits ys
    → (not (test r) && after r) ≡ true → (not (test s) && after s) ≡ true → flat_map F.text xs ++ r ≡ flat_map F.text ys ++ s → (xs ≡ ys) × (r ≡ s)
many_tell F test after front follows [] [] r s _ _ _ _ e = (refl, e)
many_tell {X} {Fits} F test after front follows [] (y ∷ ys) r s _ also ends _ e = grind (arith, append_assoc, front y, All-head Fits y ys also)
many_tell {X} {Fits} F test after front follows (x ∷ xs) [] r s fits _ _ ends e = grind (arith, append_assoc, front x, All-head Fits x xs fits)
many_tell {X} {Fits} F test after front follows (x ∷ xs) (y ∷ ys) r s fits also ends other e =
    let first = F.tells x y (flat_map F.text xs ++ r) (flat_map F.text ys ++ s) (All-head Fits x xs fits) (All-head Fits y ys also)
    (follows x _ (goes_on xs r (All-tail Fits x xs fits) ends)) (follows y _ (goes_on ys s (All-tail Fits y ys also) other))
    (sym (append_assoc (F.text x) (flat_map F.text xs) r) ∙ e ∙ append_assoc (F.text y) (flat_map F.text ys) s) in
    let more = many_tell F test after front follows xs ys r s (All-tail Fits x xs fits) (All-tail Fits y ys also) ends other first.1 in
    ((λ j. first.0 j ∷ more.0 j), more.1)
  where
    goes_on : (zs : List X) (q : List ℕ) → All Fits zs → (not (test q) && after q) ≡ true → after (flat_map F.text zs ++ q) ≡ true
    goes_on [] q _ is = (and_parts (not (test q)) (after q) is).1
    goes_on (z ∷ zs) q fit is = ap after (append_assoc (F.text z) (flat_map F.text zs) q) ∙ (and_parts _ _ (front z (flat_map F.text zs ++ q) (All-head Fits z zs fit))).1

abbrev pub many : {X : Type 0} {Fits : X → Type 0} → (F : Format Fits) (test after : List ℕ → Bool) → ((x : X) (r : List ℕ) → Fits x → (test (F.text x ++ r) && after (F.text x ++ r)) ≡ true)
    → ((x : X) (r : List ℕ) → after r ≡ true → F.clear x r ≡ true) → Format (All Fits)
many F test after front follows = record { text = flat_map F.text; clear = λ xs r. not (test r) && after r; tells = many_tell F test after front follows }

-- whether a digit stands at a place of a text
abbrev pub is_digit_at : ℕ → List ℕ → Bool
is_digit_at place text = nat_lt (get_or text place 99) 58

pub digit_front : (text r : List ℕ) → 1 ≤ length text → list_all (is_digit 10) text ≡ true → is_digit_at 0 (text ++ r) ≡ true
digit_front [] r some all = absurd (omega (arith, some))
digit_front (c ∷ text) r some all = (and_parts (nat_le 48 c) (nat_lt c 58) (and_parts (is_digit 10 c) (list_all (is_digit 10) text) all).0).1

pub decimal_front : (n : ℕ) (r : List ℕ) → is_digit_at 0 (decimal n ++ r) ≡ true
decimal_front n r = digit_front (decimal n) r (omega (arith, decimal_long n)) (decimal_are n)

-- what follows things, each of which fails a test at its front
pub front_fails : {X : Type 0} (text : X → List ℕ) (test : List ℕ → Bool) (b : Bool) → ((x : X) (r : List ℕ) → test (text x ++ r) ≡ b) → (xs : List X) (r : List ℕ) → test r ≡ b → test (flat_map text xs ++ r) ≡ b
front_fails text test b each [] r last = last
front_fails text test b each (x ∷ xs) r last = ap test (append_assoc (text x) (flat_map text xs) r) ∙ each x (flat_map text xs ++ r)

-- ---- rows, each with a number

-- what there is of each number, each with it
abbrev pub rows : {X : Type 0} → (ℕ → List X) → List ℕ → List (ℕ × X)
rows f ns = flat_map (λ n. map (λ x. (n, x)) (f n)) ns

-- what there is of one
abbrev pub of_number : {X : Type 0} → ℕ → List (ℕ × X) → List X
of_number n [] = []
of_number n ((m, x) ∷ more) = if m == n then x ∷ of_number n more else of_number n more

of_one : {X : Type 0} (n m : ℕ) (xs : List X) (more : List (ℕ × X)) → of_number n (map (λ x. (m, x)) xs ++ more) ≡ (if m == n then xs else []) ++ of_number n more
of_one n m [] more = grind arith
of_one n m (x ∷ xs) more = grind (arith, of_one n m xs more)

none_before : {X : Type 0} (f : ℕ → List X) (n a k : ℕ) → n < a → of_number n (rows f (range_with_len a k)) ≡ []
none_before f n a zero low = refl
none_before f n a (suc k) low = of_one n a (f a) (rows f (range_with_len (a + 1) k)) ∙ rw (ne_eqb a n (λ e. absurd (omega (arith, e, low)))) (none_before f n (a + 1) k (omega (arith, low)))

those_of : {X : Type 0} (f : ℕ → List X) (n a k : ℕ) → a ≤ n → n < a + k → of_number n (rows f (range_with_len a k)) ≡ f n
those_of f n a zero from to = absurd (omega (arith, from, to))
those_of f n a (suc k) from to = grind (arith, of_one, none_before, those_of f n (a + 1) k, append-nil)

-- the rows of the numbers from 0 to 77 (octal) tell what there is of each
pub rows_tell : {X : Type 0} (f g : ℕ → List X) → rows f (range_with_len 0 0o100) ≡ rows g (range_with_len 0 0o100) → (n : ℕ) → n < 0o100 → f n ≡ g n
rows_tell f g e n low = sym (those_of f n 0 0o100 (omega arith) low) ∙ ap (of_number n) e ∙ those_of g n 0 0o100 (omega arith) low

rows_all : {X : Type 0} (Fits : ℕ × X → Type 0) (f : ℕ → List X) (a k : ℕ) → ((n : ℕ) → n < a + k → All (λ x. Fits (n, x)) (f n)) → All Fits (rows f (range_with_len a k))
rows_all Fits f a zero fits = All-nil Fits
rows_all Fits f a (suc k) fits =
    All-append Fits (map (λ x. (a, x)) (f a)) (rows f (range_with_len (a + 1) k)) (All-map Fits (λ x. (a, x)) (f a) (fits a (omega arith)))
    (rows_all Fits f (a + 1) k (λ n low. fits n (omega (arith, low))))

pub rows_fit : {X : Type 0} (Fits : ℕ × X → Type 0) (f : ℕ → List X) → ((n : ℕ) → n < 0o100 → All (λ x. Fits (n, x)) (f n)) → All Fits (rows f (range_with_len 0 0o100))
rows_fit Fits f fits = rows_all Fits f 0 0o100 fits

-- texts of some things each, by those of all of them
pub flat_map_each : {A B : Type 0} (line : A → List ℕ) (text : B → List ℕ) (h : A → List B) → ((x : A) → line x ≡ flat_map text (h x)) → (xs : List A) → flat_map line xs ≡ flat_map text (flat_map h xs)
flat_map_each line text h each [] = refl
flat_map_each line text h each (x ∷ xs) = grind (arith, flat_map-append, flat_map_each line text h each xs)

-- what there may be of each number from 0 to 77 (octal), each with it
abbrev pub maybe_rows : {X : Type 0} → (ℕ → Option X) → List (ℕ × X)
maybe_rows f = rows (λ n. option_to_list (f n)) (range_with_len 0 0o100)

pub maybe_rows_are : {X : Type 0} (line : ℕ → List ℕ) (text : ℕ × X → List ℕ) (f : ℕ → Option X) → ((n : ℕ) → line n ≡ maybe_text (λ x. text (n, x)) [] (f n)) → flat_map line (range_with_len 0 0o100) ≡ flat_map text (maybe_rows f)
maybe_rows_are {X} line text f each = flat_map_each line text (λ n. map (λ x. (n, x)) (option_to_list (f n))) (λ n. each n ∙ one_row n (f n)) (range_with_len 0 0o100)
  where
    one_row : (n : ℕ) (x : Option X) → maybe_text (λ x. text (n, x)) [] x ≡ flat_map text (map (λ x. (n, x)) (option_to_list x))
    one_row n x = grind (arith, append-nil)

pub maybe_rows_tell : {X : Type 0} (f g : ℕ → Option X) → maybe_rows f ≡ maybe_rows g → (n : ℕ) → n < 0o100 → f n ≡ g n
maybe_rows_tell {X} f g e n low = same_option (f n) (g n) (rows_tell (λ n. option_to_list (f n)) (λ n. option_to_list (g n)) e n low)
  where
    same_option : (x y : Option X) → option_to_list x ≡ option_to_list y → x ≡ y
    same_option x y e = grind arith

pub maybe_rows_fit : {X : Type 0} (Fits : ℕ × X → Type 0) (f : ℕ → Option X) → ((n : ℕ) → n < 0o100 → IfSome (f n) (λ x. Fits (n, x))) → All Fits (maybe_rows f)
maybe_rows_fit {X} Fits f fits = rows_fit Fits (λ n. option_to_list (f n)) (λ n low. one n (f n) (fits n low))
  where
    one : (n : ℕ) (x : Option X) → IfSome x (λ x. Fits (n, x)) → All (λ x. Fits (n, x)) (option_to_list x)
    one n x fit = grind (arith, All-nil, All-cons)
