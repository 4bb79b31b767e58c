-- The text of an ending among others.
use Rattle.std.proofs.Common.{◌≡◌, ℕ, ◌<◌, ◌++◌, Bool, List, [], get_or, length, map, refl}
use Rattle.std.proofs.lemmas.List.{get_or-map, length-map}
use Rattle.pp_deck.specs.DeckMeaning.{LoadedDeck}
use Rattle.pp_text.specs.PrintedText.{each_below}
use Rattle.pp_endings.specs.EndingsText.{ending_at, ending_text, endings_text, head_line}

-- it is that of its order and its flags
pub text_at : {E : Type 0} (deck : LoadedDeck) (order : E → List ℕ) (going : E → List Bool)
    (endings : List E) (i : ℕ) (d : E) → i < length endings
    → ending_text deck (order (get_or endings i d)) (going (get_or endings i d))
    ≡ ending_at deck (map order endings) (map going endings) i
text_at deck order going endings i d lt =
    rw (get_or-map order endings i d [] lt, get_or-map going endings i d [] lt) refl

-- and the whole text is the head and that of each
pub whole_text : {E : Type 0} (deck : LoadedDeck) (order : E → List ℕ) (going : E → List Bool)
    (endings items : List E) (more : Bool) → endings ≡ items
    → head_line (length endings) more
    ++ each_below (length endings) (ending_at deck (map order endings) (map going endings))
    ≡ endings_text deck (map order items) (map going items) more
unfolding endings_text
whole_text deck order going endings items more same =
    rw (same, length-map items order) refl
