-- An instruction's operation, and the place or constant that it means. (Manual 60100000, peripheral
-- processors: instruction formats; no-address, constant, direct, indirect and indexed addressing.)
use Rattle.std.specs.Prelude.{ℕ, ◌+◌, ◌*◌, ◌/◌, ◌%◌, ◌^◌, ◌==◌, if◌then◌else◌}
use Rattle.pp_word.specs.Address.{place_after, indexed}
use Rattle.pp_word.specs.Opcode.{opcode_at}
use Rattle.pp_word.specs.declared.opcode.Opcode.{Opcode}
use Rattle.pp_processor.specs.Processor.{Processor, word_at}

-- the operation of the instruction at P: the upper six bits of its first word
abbrev pub operation : Processor → Opcode
operation pp = opcode_at (word_at pp pp.p / 2 ^ 6)

-- d: the lower six bits of its first word
abbrev pub lower_six : Processor → ℕ
lower_six pp = word_at pp pp.p % 2 ^ 6

-- m: the second word of a long instruction
abbrev pub second_word : Processor → ℕ
second_word pp = word_at pp (place_after pp.p 1)

-- the indexed place: m if d is 0, else m indexed by the word at place d
abbrev pub index : Processor → ℕ → ℕ
index pp d = if d == 0 then second_word pp else indexed (second_word pp) (word_at pp d)

-- the constant dm: 18 bits, of which d is the upper six
abbrev pub constant : Processor → ℕ → ℕ
constant pp d = d * 2 ^ 12 + second_word pp
