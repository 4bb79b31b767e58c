-- How the state of a channel is printed.
use Rattle.std.specs.Prelude.{ℕ, Bool, List, ◌++◌, Option, Some, None, codes, if◌then◌else◌}
use Rattle.pp_word.specs.Numeral.{octal}

-- `ACTIVE FULL 0007`, by whether the channel is active and by the word that waits
abbrev pub channel_text : Bool → Option ℕ → List ℕ
channel_text is_active (Some word) = codes "ACTIVE FULL " ++ octal 4 word
channel_text is_active None = if is_active then codes "ACTIVE EMPTY" else codes "INACTIVE"
