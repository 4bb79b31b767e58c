-- What `ppsim lint` prints: a line for each finding.
use Rattle.std.specs.Prelude.{ℕ, Bool, List, ◌++◌, codes, length, nat_lt, if◌then◌else◌}
use Rattle.std.specs.List.{flat_map}
use Rattle.pp_numbers.specs.declared.profile.Profile.{Profile}
use Rattle.pp_word.specs.Numeral.{short_decimal}
use Rattle.pp_text.specs.PrintedText.{line_end}
use Rattle.pp_lint.specs.Finding.{Finding}
use Rattle.pp_lint.specs.Findings.{findings}

-- `3:11 wrong digits: 1603,3450`: line and column in decimal
abbrev pub finding_line : Finding → List ℕ
finding_line finding = short_decimal finding.line ++ codes ":" ++ short_decimal finding.column
    ++ codes " " ++ finding.words ++ line_end

abbrev pub is_something_found : List Finding → Bool
is_something_found found = nat_lt 0 (length found)

-- a line for each of these findings, or that there is none
abbrev pub text_of_findings : List Finding → List ℕ
text_of_findings found = if is_something_found found then flat_map finding_line found
    else codes "nothing found" ++ line_end

-- THE TEXT: of what is found in a deck
unfoldable pub lint_text : Profile → List ℕ → List ℕ
lint_text profile deck = text_of_findings (findings profile deck)
