-- Addresses of the 4096 places of a processor's memory, 0000 to 7777 (octal).
-- (Manual 60100000, peripheral processors: indexed addressing, relative jumps both ways.)
use Rattle.std.specs.Prelude.{ℕ, ◌+◌, ◌-◌, ◌%◌, nat_lt, if◌then◌else◌}

abbrev pub place_count : ℕ
place_count = 0o10000

-- the place n places after p: 0000 comes after 7777 (octal)
abbrev pub place_after : ℕ → ℕ → ℕ
place_after p n = (p + n) % place_count

abbrev pub next_place : ℕ → ℕ
next_place p = place_after p 1

-- an address m with an index x: their sum, less 7777 if it is past the last place
abbrev pub indexed : ℕ → ℕ → ℕ
indexed m x = if nat_lt (m + x) place_count then m + x else m + x - 0o7777

-- a jump from p: forward by d for d 00 to 37, backward by 77 - d for d 40 to 77
abbrev pub relative_to : ℕ → ℕ → ℕ
relative_to p d =
    if nat_lt d 0o40 then (p + d) % place_count else (p + place_count - (0o77 - d)) % place_count
