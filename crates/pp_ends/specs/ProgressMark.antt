-- What a step that moves changes of its processor, whatever it is. (Private contracts alone cite
-- this.)
use Rattle.std.specs.Prelude.{ℕ, ◌+◌, ◌%◌, Option, None, Some}
use Rattle.pp_word.specs.Address.{place_count}
use Rattle.pp_processor.specs.Processor.{Processor, is_running, word_at}
use Rattle.pp_processor.specs.declared.block.Block.{Block}
use Rattle.pp_ends.specs.declared.progress_mark.ProgressMark.{ProgressMark}

-- the place before this one: 7777 (octal) comes before 0000
abbrev pub place_before : ℕ → ℕ
place_before p = (p + 0o7777) % place_count

-- the next place of a block in progress
abbrev pub next_in : Option Block → Option ℕ
next_in None = None
next_in (Some block) = Some block.place

-- A return jump to itself stores before P, and changes nothing else; every other step that moves
-- changes P, the block or the state
abbrev pub mark_of : Processor → ProgressMark
mark_of pp = record {
  p = pp.p;
  running = is_running pp.state;
  block = next_in pp.block;
  before = word_at pp (place_before pp.p);
}
