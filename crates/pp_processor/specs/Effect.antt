-- What single instructions leave, in the instruction table's words; an instruction has n words.
-- (Manual 60100000, peripheral processors: descriptions of the instructions.)
use Rattle.std.specs.Prelude.{ℕ, ◌%◌, ◌^◌, ◌==◌, ◌||◌, Bool, None, if◌then◌else◌, slice_set}
use Rattle.pp_word.specs.Address.{next_place, place_after, relative_to}
use Rattle.pp_word.specs.Bits.{bit, logical_difference}
use Rattle.pp_word.specs.OnesComplement.{sum, difference}
use Rattle.pp_processor.specs.Operand.{second_word}
use Rattle.pp_processor.specs.Processor.{Processor, word_at}
use Rattle.pp_processor.specs.declared.pp_state.PpState.TheVariants.{Stopped, Fault}

-- P moves past the instruction
abbrev pub goes_on : Processor → ℕ → Processor
goes_on pp n = record pp { p = place_after pp.p n }

abbrev pub goes_to : Processor → ℕ → Processor
goes_to pp target = record pp { p = target }

-- the program stops, and P stays
abbrev pub stops : Processor → Processor
stops pp = record pp { state = Stopped }

-- a numbered fault: memory, A and P stay, and no block is in progress
abbrev pub faults : Processor → ℕ → Processor
faults pp number = record pp { state = Fault number; block = None }

-- a jump by 00 or 77 (octal) leads to itself
abbrev pub leads_to_itself : ℕ → Bool
leads_to_itself d = d == 0 || d == 0o77

-- UJN: a relative jump, or a stop
abbrev pub jumps_or_stops : Processor → ℕ → Processor
jumps_or_stops pp d = if leads_to_itself d then stops pp else goes_to pp (relative_to pp.p d)

-- a relative jump if a test holds
abbrev pub jumps_where : Bool → Processor → ℕ → ℕ → Processor
jumps_where test pp d n =
    if test then (if leads_to_itself d then pp else goes_to pp (relative_to pp.p d))
    else goes_on pp n

-- a long jump to the second word if a test holds
abbrev pub branches_where : Bool → Processor → ℕ → Processor
branches_where test pp n = if test then goes_to pp (second_word pp) else goes_on pp n

-- RJM: the place after the instruction is stored at the target, and the program goes on after that
abbrev pub calls : Processor → ℕ → ℕ → Processor
calls pp target n =
    record pp { memory = slice_set pp.memory target (place_after pp.p n); p = next_place target }

-- A is negative: its uppermost bit, 17 (decimal), is 1
abbrev pub is_negative : Processor → Bool
is_negative pp = bit pp.a 17

abbrev pub low_of : ℕ → ℕ
low_of a = a % 2 ^ 12

abbrev pub loads : Processor → ℕ → ℕ → Processor
loads pp value n = record pp { a = value; p = place_after pp.p n }

-- the eight operations on the word at a place, by the last octal digit of the code
-- 0: A becomes the word
abbrev pub loads_word : Processor → ℕ → ℕ → Processor
loads_word pp place n = loads pp (word_at pp place) n

-- 1: the word is added to A
abbrev pub adds_word : Processor → ℕ → ℕ → Processor
adds_word pp place n = loads pp (sum pp.a (word_at pp place)) n

-- 2: the word is subtracted from A
abbrev pub subtracts_word : Processor → ℕ → ℕ → Processor
subtracts_word pp place n = loads pp (difference pp.a (word_at pp place)) n

-- 3: A becomes its logical difference from the word
abbrev pub differs_from_word : Processor → ℕ → ℕ → Processor
differs_from_word pp place n = loads pp (logical_difference pp.a (word_at pp place)) n

-- 4: the word becomes the low twelve bits of A
abbrev pub stores_word : Processor → ℕ → ℕ → Processor
stores_word pp place n =
    record pp { memory = slice_set pp.memory place (low_of pp.a); p = place_after pp.p n }

-- 5, 6, 7: A becomes a value, and the word its low twelve bits
abbrev pub replaces : Processor → ℕ → ℕ → ℕ → Processor
replaces pp place value n = stores_word (record pp { a = value }) place n

-- 5: replace add: the sum of A and the word
abbrev pub replaces_by_sum : Processor → ℕ → ℕ → Processor
replaces_by_sum pp place n = replaces pp place (sum pp.a (word_at pp place)) n

-- 6: replace add one: the word and 1
abbrev pub replaces_by_one_more : Processor → ℕ → ℕ → Processor
replaces_by_one_more pp place n = replaces pp place (sum (word_at pp place) 1) n

-- 7: replace subtract one: the word less 1
abbrev pub replaces_by_one_less : Processor → ℕ → ℕ → Processor
replaces_by_one_less pp place n = replaces pp place (difference (word_at pp place) 1) n
