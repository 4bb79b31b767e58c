-- The words of a line, taken one by one: `whole` is what the line comes to.
use Rattle.std.proofs.Common.{sym, ◌≡◌, ℕ, ◌+◌, ◌<◌, ◌≤◌, List, [], ◌∷◌, Result, Ok, Err, lt-ltb, le-ltb, arith}
use Rattle.pp_deck.specs.OctalNumber.{number}
use Rattle.pp_deck.specs.DeckLine.{words_in}
use Rattle.pp_deck.specs.Reading.{on_read}
use Rattle.pp_deck.specs.declared.flaw.Flaw.{Flaw}

pub words_more : {A : Type 0} (use_of : List ℕ → A) (most place end word : ℕ) (past : Flaw) (field : List ℕ) (all fields : List (List ℕ)) (whole : Result A Flaw) → on_read use_of (words_in most place end past all) ≡ whole → all ≡ field ∷ fields → Ok word ≡ number most field → place < end → on_read (λ ws. use_of (word ∷ ws)) (words_in most (place + 1) end past fields) ≡ whole
unfolding words_in
words_more use_of most place end word past field all fields whole is e n lt = grind (arith, lt-ltb)

pub words_past : {A : Type 0} (use_of : List ℕ → A) (most place end word : ℕ) (past : Flaw) (field : List ℕ) (all fields : List (List ℕ)) (whole : Result A Flaw) → on_read use_of (words_in most place end past all) ≡ whole → all ≡ field ∷ fields → Ok word ≡ number most field → end ≤ place → whole ≡ Err past
unfolding words_in
words_past use_of most place end word past field all fields whole is e n le = grind (arith, le-ltb)

pub words_bad : {A : Type 0} (use_of : List ℕ → A) (most place end : ℕ) (past flaw : Flaw) (field : List ℕ) (all fields : List (List ℕ)) (whole : Result A Flaw) → on_read use_of (words_in most place end past all) ≡ whole → all ≡ field ∷ fields → Err flaw ≡ number most field → whole ≡ Err flaw
unfolding words_in
words_bad use_of most place end past flaw field all fields whole is e n = sym (rw (e, ← n) at is)

pub words_none : {A : Type 0} (use_of : List ℕ → A) (most place end : ℕ) (past : Flaw) (all : List (List ℕ)) (whole : Result A Flaw) → on_read use_of (words_in most place end past all) ≡ whole → all ≡ [] → whole ≡ Ok (use_of [])
unfolding words_in
words_none use_of most place end past all whole is e = sym (rw e at is)
