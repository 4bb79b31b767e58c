-- The lines of a history, one event after another.
use Rattle.std.proofs.Common.{◌≡◌, ◌∙◌, ℕ, ◌+◌, ◌<◌, List, [], ◌∷◌, ◌++◌, length, take, slice_index_or, Option, Some, None, sym, ap, arith, add-one}
use Rattle.std.specs.Prelude.{option_map}
use Rattle.pp_numbers.specs.PpNo.{processor_number}
use Rattle.std.proofs.Math.Seq.{take-suc}
use Rattle.std.proofs.lemmas.Grind.{flat_map-append}
use Rattle.std.proofs.lemmas.List.{append-nil, length-take-le}
use Rattle.std.specs.List.{enumerate_from, flat_map}
use Rattle.pp_report.specs.Types.{Event, Worker}
use Rattle.pp_report.specs.PrintedReport.{author_place, line_by, numbered_event_line}

module _ {X : Type 0} where
  pub enumerate_push : (n : ℕ) (xs : List X) (y : X) → enumerate_from n (xs ++ y ∷ []) ≡ enumerate_from n xs ++ (n + length xs, y) ∷ []
  enumerate_push n [] y = ap (λ k. (k, y) ∷ []) (omega arith)
  enumerate_push n (x ∷ xs) y = grind (arith, enumerate_push (n + 1) xs y)

-- the first events, each with its number, and one event more
pub enumerate_more : (h : List Event) (i : ℕ) (e : Event) → i < length h → e ≡ slice_index_or h i e → enumerate_from 0 (take (i + 1) h) ≡ enumerate_from 0 (take i h) ++ (i, e) ∷ []
enumerate_more h i e l at =
    ap (enumerate_from 0) (ap (λ n. take n h) (add-one i) ∙ take-suc h i e l ∙ ap (λ x. take i h ++ x ∷ []) (sym at))
    ∙ (enumerate_push 0 (take i h) e ∙ ap (λ k. enumerate_from 0 (take i h) ++ (k, e) ∷ []) (let n = length-take-le i h (omega arith) in omega arith))

-- the lines of the first events, with one event more
pub lines_go_on : {Z : Type 0} (c i : ℕ) (workers : List (Worker Z)) (h : List Event) (e : Event)
    → i < length h → e ≡ slice_index_or h i e
    → flat_map (numbered_event_line c workers) (enumerate_from 0 (take i h)) ++ line_by c i e (author_place c workers i)
    ≡ flat_map (numbered_event_line c workers) (enumerate_from 0 (take (i + 1) h))
unfolding numbered_event_line
lines_go_on {Z} c i workers h e l at =
    let f : ℕ × Event → List ℕ = numbered_event_line c workers in
    sym (ap (flat_map f) (enumerate_more h i e l at) ∙ (flat_map-append f (enumerate_from 0 (take i h)) ((i, e) ∷ [])
    ∙ ap (λ line. flat_map f (enumerate_from 0 (take i h)) ++ line) (append-nil (line_by c i e (author_place c workers i)))))

-- the author is the processor at the place of one worker, or there is none
pub named_by : (place : Option ℕ) (author : ℕ) → Some author ≡ option_map processor_number place → (p : ℕ) × (place ≡ Some p) × (author ≡ processor_number p)
named_by place author is = grind arith

pub no_author : (place : Option ℕ) → None ≡ option_map processor_number place → place ≡ None
no_author place is = grind arith
