-- Whole block transfers, stated without their single steps: which place holds which word, and A, P
-- and the state after. Codes are octal; d is the lower six bits of the instruction, m its second
-- word. (Manual 60100000, peripheral processors: CRM, CWM, IAM, OAM.)
use Rattle.std.specs.Prelude.{ℕ, ◌≡◌, ◌≢◌, ◌+◌, ◌-◌, ◌*◌, ◌/◌, ◌%◌, ◌<◌, ◌≤◌, ◌==◌, Bool, true, false, List, [], ◌∷◌, ◌++◌, None, Some, if◌then◌else◌, length, map, replicate, take, slice_index}
use Rattle.pp_word.specs.Address.{place_count, place_after, next_place}
use Rattle.pp_word.specs.CentralWord.{parts_of}
use Rattle.pp_word.specs.OnesComplement.{sum}
use Rattle.pp_word.specs.declared.opcode.Opcode.{Opcode}
use Rattle.pp_channel.specs.declared.chan_op.ChanOp.TheVariants.{Put, Take}
use Rattle.pp_channel.specs.declared.reply.Reply.TheVariants.{Done, Word, Held}
use Rattle.pp_processor.specs.Block.{central_from, keeps_place}
use Rattle.pp_processor.specs.NeedAndEffect.{need}
use Rattle.pp_processor.specs.Operand.{operation, lower_six, second_word}
use Rattle.pp_numbers.specs.Profile.{has_channel}
use Rattle.pp_processor.specs.Processor.{Processor, word_at}
use Rattle.pp_processor.specs.Replay.{replayed, given_count}
use Rattle.pp_processor.specs.declared.{answer.Answer.Answer, need.Need.Need}
use Rattle.pp_processor.specs.declared.pp_state.PpState.TheVariants.{Running}

-- the memory with the place of the second word in place 0000
abbrev pub kept_memory : Processor → List ℕ
kept_memory pp = (keeps_place pp).memory

-- word i of `count` comes to place i from m on, and all other places are as before
pub record BringsWords (old new : List ℕ) (m count : ℕ) (word : ℕ → ℕ) : Type 0 where
  pub words : (i : ℕ) → i < count → slice_index new (place_after m i) ≡ word i
  pub others : (place : ℕ) → place < place_count → ((i : ℕ) → i < count → place ≢ place_after m i)
      → slice_index new place ≡ slice_index old place
  pub each_place : length new ≡ length old

-- a running processor without a block in progress, with this operation at P
pub record BeginsAt (op : Opcode) (pp : Processor) : Type 0 where
  pub running : pp.state ≡ Running
  pub free : pp.block ≡ None
  pub code : operation pp ≡ op

-- each answer is given; A is this, P after the place that is in place 0000, and the block is over
pub record EndsBlock (pp : Processor) (answers : List Answer) (accumulator : ℕ) : Type 0 where
  pub given : given_count pp answers ≡ length answers
  pub a : (replayed pp answers).a ≡ accumulator
  pub p : (replayed pp answers).p ≡ next_place (word_at (replayed pp answers) 0)
  pub running : (replayed pp answers).state ≡ Running
  pub free : (replayed pp answers).block ≡ None

-- the need that answer i meets, counted from the answer after the Local that starts the block
abbrev pub need_before_answer : Processor → List Answer → ℕ → Need
need_before_answer pp answers i = need (replayed pp (take (i + 1) answers))

-- the channel was not ready, and was inactive
abbrev pub inactive : Bool → Answer
inactive full = Answer.Channel (Held (record { active = false; full = full }))

-- IAM: the start, and these words
abbrev pub input_answers : List ℕ → List Answer
input_answers words = Answer.Local ∷ map (λ word. Answer.Channel (Word word)) words

-- OAM: the start, and `count` words put
abbrev pub output_answers : ℕ → List Answer
output_answers count = Answer.Local ∷ replicate count (Answer.Channel Done)

-- 71: words are taken from channel d, and come to the places from m on
pub record TakesWords (pp : Processor) (answers : List Answer) (count : ℕ) (words : List ℕ)
    : Type 0 where
  pub takes : (i : ℕ) → i < count
      → need_before_answer pp answers i ≡ Need.Channel (lower_six pp) Take
  pub memory : BringsWords (kept_memory pp) (replayed pp answers).memory (second_word pp)
      (length words) (λ i. slice_index words i)

-- 71: as many words as A says
abbrev pub CompleteInput : Processor → Type 0
CompleteInput pp = (words : List ℕ) → BeginsAt Opcode.IAM pp
    → has_channel pp.profile (lower_six pp) ≡ true → 0 < pp.a → length words ≡ pp.a
    → length words ≤ place_count → let answers = input_answers words in
    EndsBlock pp answers 0 × TakesWords pp answers (length words) words

-- 71: fewer words, and then the channel was inactive: a word 0 closes them, and A is what was left
abbrev pub ShortInput : Processor → Type 0
ShortInput pp = (words : List ℕ) (full : Bool) → BeginsAt Opcode.IAM pp
    → has_channel pp.profile (lower_six pp) ≡ true → length words < pp.a
    → length words < place_count → let answers = input_answers words ++ inactive full ∷ [] in
    EndsBlock pp answers (pp.a - length words)
    × TakesWords pp answers (length words) (words ++ 0 ∷ [])

-- 73: the words from place m on are put, and no place but 0000 changes
pub record PutsWords (pp : Processor) (answers : List Answer) (count : ℕ) : Type 0 where
  pub puts : (i : ℕ) → i < count → need_before_answer pp answers i ≡ Need.Channel (lower_six pp)
      (Put (slice_index (kept_memory pp) (place_after (second_word pp) i)))
  pub memory : (replayed pp answers).memory ≡ kept_memory pp

-- 73: as many words as A says
abbrev pub CompleteOutput : Processor → Type 0
CompleteOutput pp = BeginsAt Opcode.OAM pp → has_channel pp.profile (lower_six pp) ≡ true → 0 < pp.a
    → let answers = output_answers pp.a in EndsBlock pp answers 0 × PutsWords pp answers pp.a

-- 73: fewer words, and then the channel was inactive
abbrev pub ShortOutput : Processor → Type 0
ShortOutput pp = (count : ℕ) (full : Bool) → BeginsAt Opcode.OAM pp
    → has_channel pp.profile (lower_six pp) ≡ true → count < pp.a →
    let answers = output_answers count ++ inactive full ∷ [] in
    EndsBlock pp answers (pp.a - count) × PutsWords pp answers count

-- the address of central word i of a block that begins with A = a
abbrev pub address_of : ℕ → ℕ → ℕ
address_of a i = if i == 0 then a else sum a i

-- word j of these central words: part j mod 5 of central word j div 5
abbrev pub part_of : List ℕ → ℕ → ℕ
part_of centrals j = slice_index (parts_of (slice_index centrals (j / 5))) (j % 5)

-- 61: central words are read, and their parts come to the places from m on
pub record ReadsCentrals (pp : Processor) (answers : List Answer) (centrals : List ℕ) : Type 0 where
  pub reads : (i : ℕ) → i < length centrals
      → need_before_answer pp answers i ≡ Need.Read (address_of pp.a i)
  pub memory : BringsWords (kept_memory pp) (replayed pp answers).memory (second_word pp)
      (5 * length centrals) (part_of centrals)

-- 61: as many central words as place d says, from 1 to 819 (decimal)
abbrev pub CentralRead : Processor → Type 0
CentralRead pp = (centrals : List ℕ) → BeginsAt Opcode.CRM pp
    → 0 < length centrals → length centrals ≤ 819 → length centrals ≡ word_at pp (lower_six pp) →
    let answers = Answer.Local ∷ map (λ central. Answer.Read (Some central)) centrals in
    EndsBlock pp answers (sum pp.a (length centrals)) × ReadsCentrals pp answers centrals

-- 63: central words are written from the words from m on, five each; no place but 0000 changes
pub record WritesCentrals (pp : Processor) (answers : List Answer) (count : ℕ) : Type 0 where
  pub writes : (i : ℕ) → i < count
      → need_before_answer pp answers i ≡ Need.Write (address_of pp.a i)
      (central_from (keeps_place pp) (place_after (second_word pp) (5 * i)))
  pub memory : (replayed pp answers).memory ≡ kept_memory pp

-- 63: as many central words as place d says
abbrev pub CentralWrite : Processor → Type 0
CentralWrite pp = (count : ℕ) → BeginsAt Opcode.CWM pp → 0 < count
    → count ≡ word_at pp (lower_six pp) →
    let answers = Answer.Local ∷ replicate count (Answer.Wrote true) in
    EndsBlock pp answers (sum pp.a count) × WritesCentrals pp answers count
