-- A step leaves a processor the widths of its words and registers, and the profile of its machine.
use Rattle.std.proofs.Common.{ℕ, zero, suc, ◌+◌, ◌-◌, ◌%◌, ◌/◌, ◌^◌, ◌==◌, ◌<◌, not, Bool, true, false, List, [], ◌∷◌, Option, None, Some, if◌then◌else◌, slice_set, get_or, arith, ◌≡◌, length, length-append, length-take}
use Rattle.std.specs.Prelude.{slice_index_or, nat_lt, if◌then◌else◌}
use Rattle.std.proofs.lemmas.List.{length-set, length-drop, length-map, length-replicate}
use Rattle.std.proofs.lemmas.List.Elements.{All-from_recursion}
use Rattle.pp_word.specs.Address.{place_after, place_count, next_place, relative_to, indexed}
use Rattle.pp_word.specs.CentralWord.{parts_of}
use Rattle.pp_word.specs.OnesComplement.{sum, difference, all_ones}
use Rattle.pp_word.specs.declared.opcode.Opcode.{Opcode}
use Rattle.pp_word.specs.Opcode.{code_of, length_of}
use Rattle.pp_word.specs.declared.opcode.Opcode.TheVariants.{PSN, LJM, RJM, UJN, ZJN, NJN, PJN, MJN, SHN, LMN, LPN, SCN, LDN, LCN, ADN, SBN, LDC, ADC, LPC, LMC, PSN24, PSN25, EXN, RPN, CRD, CRM, CWD, CWM, AJM, IJM, FJM, EJM, IAN, IAM, OAN, OAM, ACN, DCN, FAN, FNC}
use Rattle.pp_channel.specs.declared.{chan_op.ChanOp.ChanOp, flags.Flags.Flags, reply.Reply.Reply}
use Rattle.pp_channel.specs.declared.chan_op.ChanOp.TheVariants as operations
use Rattle.pp_channel.specs.declared.reply.Reply.TheVariants as replies
use Rattle.pp_processor.specs.Block.{stored_from, receives, central_from, block_word, starts, ends, counts_down, counts_up, stores_at}
use Rattle.pp_processor.specs.Effect.{goes_on, goes_to, jumps_where, branches_where, leads_to_itself, is_negative, low_of, loads, loads_word, replaces}
use Rattle.pp_processor.specs.InstructionTable.{row, memory_operations, operand_places}
use Rattle.pp_processor.specs.NeedAndEffect.{next_step, processor_after}
use Rattle.pp_processor.specs.Operand.{second_word, index, constant}
use Rattle.pp_processor.specs.PpMemory.{IsMemory}
use Rattle.pp_processor.specs.Processor.{Processor, IsProcessor, word_at}
use Rattle.pp_processor.specs.Step.{Step, local, probes, takes, does, reads, writes}
use Rattle.pp_processor.specs.declared.{answer.Answer.Answer, block.Block.Block, block.BlockKind.BlockKind, pp_state.PpState.PpState}
use Rattle.pp_processor.specs.declared.answer.Answer.TheVariants as answers
use Rattle.pp_processor.specs.declared.block.BlockKind.TheVariants.{CentralIn, CentralOut, Input, Output}
use Rattle.pp_numbers.specs.declared.profile.Profile.{Profile}
use Rattle.pp_processor.specs.declared.pp_state.PpState.TheVariants.{Stopped, Fault}
use Rattle.std.proofs.Math.Nat.{pow-le-pow_right, pow-suc, pow-zero}
use Rattle.std.proofs.lemmas.Slice.Zip.{length-zip}
use Rattle.std.proofs.lemmas.Bool.{ltb-true}
use Rattle.pp_word.specs.Bits.{number_of, shift, complement, logical_product, logical_difference, selective_clear}
use Rattle.pp_word.proofs.BitsLemmas.{length-lowest_bits}

number_small : (bs : List Bool) → number_of bs < 2 ^ length bs
number_small [] = rw pow-zero (omega arith)
number_small (true ∷ bs) = grind (arith, pow-suc, number_small bs)
number_small (false ∷ bs) = grind (arith, pow-suc, number_small bs)

pub conjunction_small : (a b : ℕ) → logical_product a b < 2 ^ 18
conjunction_small a b = grind (arith, length-map, length-zip, length-lowest_bits, number_small, pow-le-pow_right)

pub exclusive_or_small : (a b : ℕ) → logical_difference a b < 2 ^ 18
exclusive_or_small a b = grind (arith, length-map, length-zip, length-lowest_bits, number_small, pow-le-pow_right)

pub without_small : (a b : ℕ) → selective_clear a b < 2 ^ 18
without_small a b = grind (arith, length-map, length-zip, length-lowest_bits, number_small, pow-le-pow_right)

pub complemented_small : (a : ℕ) → complement a < 2 ^ 18
complemented_small a = grind (arith, length-map, length-lowest_bits, number_small, pow-le-pow_right)

pub one_of : (b : Bool) (x y most : ℕ) → x < most → y < most → (if b then x else y) < most
one_of b x y most h k = grind arith

pub shifted_small : (a d : ℕ) → shift a d < 2 ^ 18
shifted_small a d = grind (arith, one_of, length-lowest_bits, length-append, length-drop, length-take, length-replicate, number_small, pow-le-pow_right)

pub sum_small : (a b : ℕ) → sum a b < 2 ^ 18
sum_small a b = one_of _ all_ones ((a + b) % all_ones) (2 ^ 18) (omega arith) (omega arith)

pub difference_small : (a b : ℕ) → difference a b < 2 ^ 18
difference_small a b = one_of _ all_ones ((a + all_ones - b) % all_ones) (2 ^ 18) (omega arith) (omega arith)

pub next_small : (p : ℕ) → next_place p < 2 ^ 12
next_small p = omega arith

pub indexed_small : (m x : ℕ) → m < 2 ^ 12 → x < 2 ^ 12 → indexed m x < 2 ^ 12
indexed_small m x h k = grind (arith, ltb-true)

pub relative_small : (p d : ℕ) → relative_to p d < 2 ^ 12
relative_small p d = one_of (nat_lt d 0o40) ((p + d) % place_count) ((p + place_count - (0o77 - d)) % place_count) (2 ^ 12) (omega arith) (omega arith)

-- a processor of a machine of this profile
pub record IsOf (profile : Profile) (pp : Processor) : Type 0 where
  pub widths : IsProcessor pp
  pub its_profile : pp.profile ≡ profile

-- numbers below a bound, of which one is put in another's place
pub each_set : (most : ℕ) (ws : List ℕ) (k w : ℕ) → ((i : ℕ) → get_or ws i 0 < most) → w < most → (i : ℕ) → get_or (slice_set ws k w) i 0 < most
each_set most [] k w h small i = h i
each_set most (v ∷ ws) zero w h small zero = small
each_set most (v ∷ ws) zero w h small (suc i) = h (suc i)
each_set most (v ∷ ws) (suc k) w h small zero = h zero
each_set most (v ∷ ws) (suc k) w h small (suc i) = each_set most ws k w (λ j. h (suc j)) small i

stored : (memory : List ℕ) (place word : ℕ) → IsMemory memory → word < 2 ^ 12 → IsMemory (slice_set memory place word)
stored memory place word h small = grind (arith, length-set, each_set)

-- words that have 12 bits
abbrev AllSmall : List ℕ → Type 0
AllSmall [] = Unit {0}
AllSmall (w ∷ ws) = (w < 2 ^ 12) × AllSmall ws

all_stored : (memory : List ℕ) (place : ℕ) (ws : List ℕ) → IsMemory memory → AllSmall ws → IsMemory (stored_from memory place ws)
all_stored memory place [] h small = h
all_stored memory place (w ∷ ws) h small = all_stored (slice_set memory place w) (next_place place) ws (stored memory place w h small.0) small.1

parts_small : (central : ℕ) → AllSmall (parts_of central)
parts_small central = (omega arith, (omega arith, (omega arith, (omega arith, (omega arith, tt)))))

-- the word of an operation, if it has one
abbrev pub IsSmallOperation : ChanOp → Type 0
IsSmallOperation (operations.Put w) = w < 2 ^ 12
IsSmallOperation (operations.Function w) = w < 2 ^ 12
IsSmallOperation op = Unit {0}

-- the word of an answer, if it is a word that was taken
abbrev pub IsSmallReply : Reply → Type 0
IsSmallReply (replies.Word word) = word < 2 ^ 12
IsSmallReply reply = Unit {0}

abbrev pub IsSmallAnswer : Answer → Type 0
IsSmallAnswer (answers.Channel reply) = IsSmallReply reply
IsSmallAnswer answer = Unit {0}

module _ (profile : Profile) where
  module _ (pp : Processor) (h : IsOf profile pp) where
    word_small : (place : ℕ) → word_at pp place < 2 ^ 12
    word_small place = h.widths.memory.each_word place

    wide : (place : ℕ) → word_at pp place < 2 ^ 18
    wide place = omega (arith, word_small place)

    -- a memory, an A and a P of these widths, whatever its state
    with_all : (memory : List ℕ) (a p : ℕ) (state : PpState) (block : Option Block) → IsMemory memory → a < 2 ^ 18 → p < 2 ^ 12
        → IsOf profile (record pp { memory = memory; a = a; p = p; state = state; block = block })
    with_all memory a p state block is low small = record { widths = record { memory = is; a = low; p = small }; its_profile = h.its_profile }

    at_p : (p : ℕ) → p < 2 ^ 12 → IsOf profile (goes_to pp p)
    at_p p small = with_all pp.memory pp.a p pp.state pp.block h.widths.memory h.widths.a small

    on : (n : ℕ) → IsOf profile (goes_on pp n)
    on n = at_p (place_after pp.p n) (omega arith)

    at_rest : (state : PpState) (block : Option Block) → IsOf profile (record pp { state = state; block = block })
    at_rest state block = with_all pp.memory pp.a pp.p state block h.widths.memory h.widths.a h.widths.p

    loaded : (value n : ℕ) → value < 2 ^ 18 → IsOf profile (loads pp value n)
    loaded value n small = with_all pp.memory value (place_after pp.p n) pp.state pp.block h.widths.memory small (omega arith)

    either : (b : Bool) (one other : Processor) → IsOf profile one → IsOf profile other → IsOf profile (if b then one else other)
    either b one other k l = grind arith

    jumped : (test : Bool) (d : ℕ) → IsOf profile (jumps_where test pp d 1)
    jumped test d = either test _ _ (either (leads_to_itself d) pp _ h (at_p (relative_to pp.p d) (relative_small pp.p d))) (on 1)

    branched : (test : Bool) → IsOf profile (branches_where test pp 2)
    branched test = either test _ _ (at_p (second_word pp) (word_small (place_after pp.p 1))) (on 2)

    -- a word of 12 bits comes to a place
    put_at : (place word a p : ℕ) → word < 2 ^ 12 → a < 2 ^ 18 → p < 2 ^ 12 → IsOf profile (record pp { memory = slice_set pp.memory place word; a = a; p = p })
    put_at place word a p bits low small = with_all (slice_set pp.memory place word) a p pp.state pp.block (stored pp.memory place word h.widths.memory bits) low small

    kept_at : (place word : ℕ) → word < 2 ^ 12 → IsOf profile (stores_at pp place word)
    kept_at place word bits = put_at place word pp.a pp.p bits h.widths.a h.widths.p

    -- A becomes a value, and the word at a place its low twelve bits
    replaced : (place value n : ℕ) → value < 2 ^ 18 → IsOf profile (replaces pp place value n)
    replaced place value n small = put_at place (low_of value) value (place_after pp.p n) (omega arith) small (omega arith)

    -- the eight operations on the word at a place
    operated : (code place n : ℕ) → IsOf profile (slice_index_or memory_operations (code % 8) loads_word pp place n)
    operated code place n =
        let word = word_at pp place in
        All-from_recursion (λ operation. IsOf profile (operation pp place n)) memory_operations (
          loaded word n (wide place),
          (
            loaded _ n (sum_small pp.a word),
            (
              loaded _ n (difference_small pp.a word),
              (
                loaded _ n (exclusive_or_small pp.a word),
                (replaced place pp.a n h.widths.a, (replaced place _ n (sum_small pp.a word), (replaced place _ n (sum_small word 1), (replaced place _ n (difference_small word 1), tt)))),
              ),
            ),
          ),
        )
        (code % 8) loads_word (omega arith)

    received : (place central : ℕ) → IsOf profile (receives pp place central)
    received place central = with_all (stored_from pp.memory place (parts_of central)) pp.a pp.p pp.state pp.block (all_stored pp.memory place (parts_of central) h.widths.memory (parts_small central)) h.widths.a h.widths.p

    ended : IsOf profile (ends pp)
    ended = with_all pp.memory pp.a (next_place (word_at pp 0)) pp.state None h.widths.memory h.widths.a (next_small (word_at pp 0))

    central_small : (place : ℕ) → central_from pp place < 2 ^ 60
    central_small place = grind (arith, word_small)

  -- a block that ends, or is in progress
  ended_or_on : (test : Bool) (pp : Processor) (block : Block) → IsOf profile pp → IsOf profile (if test then ends pp else record pp { block = Some block })
  ended_or_on test pp block h = either pp h test _ _ (ended pp h) (at_rest pp h pp.state (Some block))

  started : (pp : Processor) → IsOf profile pp → (count : ℕ) (kind : BlockKind) → IsOf profile (starts pp count kind)
  started pp h count kind = ended_or_on (count == 0) (stores_at pp 0 (next_place pp.p)) _ (kept_at pp h 0 (next_place pp.p) (next_small pp.p))

  counted_down : (pp : Processor) → IsOf profile pp → (kind : BlockKind) (place : ℕ) → IsOf profile (counts_down pp kind place)
  counted_down pp h kind place = grind (arith, ended_or_on, difference_small, with_all)

  counted_up : (pp : Processor) → IsOf profile pp → (left : ℕ) (kind : BlockKind) (place : ℕ) → IsOf profile (counts_up pp left kind place)
  counted_up pp h left kind place = grind (arith, ended_or_on, sum_small, with_all)

  -- ---- steps

  -- a step all of whose answers leave the widths, where a word that was taken has 12 bits
  abbrev pub StepKeeps : Step → Type 0
  StepKeeps (local after) = IsOf profile after
  StepKeeps (probes channel after) = (flags : Flags) → IsOf profile (after flags)
  StepKeeps (takes channel after) = (word : ℕ) → word < 2 ^ 12 → IsOf profile (after word)
  StepKeeps (does channel op after) = IsSmallOperation op × IsOf profile after
  StepKeeps (reads address after) = (word : ℕ) → IsOf profile (after word)
  StepKeeps (writes address word after) = (word < 2 ^ 60) × IsOf profile after

  row_keeps : (op : Opcode) (pp : Processor) (d : ℕ) → IsOf profile pp → d < 0o100 → StepKeeps (row op pp d)
  row_keeps PSN pp d h lt = on pp h 1
  row_keeps LJM pp d h lt = grind (arith, at_p, one_of, word_small, indexed_small)
  row_keeps RJM pp d h lt = put_at pp h (index pp d) _ pp.a _ (omega arith) h.widths.a (next_small (index pp d))
  row_keeps UJN pp d h lt = either pp h (leads_to_itself d) _ _ (at_rest pp h Stopped pp.block) (at_p pp h (relative_to pp.p d) (relative_small pp.p d))
  row_keeps ZJN pp d h lt = jumped pp h (pp.a == 0) d
  row_keeps NJN pp d h lt = jumped pp h (not (pp.a == 0)) d
  row_keeps PJN pp d h lt = jumped pp h (not (is_negative pp)) d
  row_keeps MJN pp d h lt = jumped pp h (is_negative pp) d
  row_keeps SHN pp d h lt = loaded pp h _ 1 (shifted_small pp.a d)
  row_keeps LMN pp d h lt = loaded pp h _ 1 (exclusive_or_small pp.a d)
  row_keeps LPN pp d h lt = loaded pp h _ 1 (conjunction_small pp.a d)
  row_keeps SCN pp d h lt = loaded pp h _ 1 (without_small pp.a d)
  row_keeps LDN pp d h lt = loaded pp h d 1 (omega (arith, lt))
  row_keeps LCN pp d h lt = loaded pp h _ 1 (complemented_small d)
  row_keeps ADN pp d h lt = loaded pp h _ 1 (sum_small pp.a d)
  row_keeps SBN pp d h lt = loaded pp h _ 1 (difference_small pp.a d)
  row_keeps LDC pp d h lt = loaded pp h (constant pp d) 2 (omega (arith, lt, word_small pp h (place_after pp.p 1)))
  row_keeps ADC pp d h lt = loaded pp h _ 2 (sum_small pp.a (constant pp d))
  row_keeps LPC pp d h lt = loaded pp h _ 2 (conjunction_small pp.a (constant pp d))
  row_keeps LMC pp d h lt = loaded pp h _ 2 (exclusive_or_small pp.a (constant pp d))
  row_keeps PSN24 pp d h lt = on pp h 1
  row_keeps PSN25 pp d h lt = on pp h 1
  row_keeps EXN pp d h lt = at_rest pp h (Fault 1) None
  row_keeps RPN pp d h lt = at_rest pp h (Fault 2) None
  row_keeps CRD pp d h lt = λ central. on (receives pp d central) (received pp h d central) 1
  row_keeps CRM pp d h lt = started pp h _ _
  row_keeps CWD pp d h lt = (central_small pp h d, on pp h 1)
  row_keeps CWM pp d h lt = started pp h _ _
  row_keeps AJM pp d h lt = λ flags. branched pp h flags.active
  row_keeps IJM pp d h lt = λ flags. branched pp h (not flags.active)
  row_keeps FJM pp d h lt = λ flags. branched pp h flags.full
  row_keeps EJM pp d h lt = λ flags. branched pp h (not flags.full)
  row_keeps IAN pp d h lt = λ word small. loaded pp h word 1 (omega (arith, small))
  row_keeps IAM pp d h lt = started pp h _ _
  row_keeps OAN pp d h lt = (omega arith, on pp h 1)
  row_keeps OAM pp d h lt = started pp h _ _
  row_keeps ACN pp d h lt = (tt, on pp h 1)
  row_keeps DCN pp d h lt = (tt, on pp h 1)
  row_keeps FAN pp d h lt = (omega arith, on pp h 1)
  row_keeps FNC pp d h lt = (word_small pp h (place_after pp.p 1), on pp h 2)
  row_keeps op pp d h lt = operated pp h (code_of op) (slice_index_or (operand_places pp d) (code_of op / 8 - 3) d) (length_of op)

  block_keeps : (kind : BlockKind) (place : ℕ) (pp : Processor) → IsOf profile pp → StepKeeps (block_word kind place pp)
  block_keeps (CentralIn left) place pp h = λ central. counted_up (receives pp place central) (received pp h place central) (left - 1) (CentralIn (left - 1)) place
  block_keeps (CentralOut left) place pp h = (central_small pp h place, counted_up pp h (left - 1) (CentralOut (left - 1)) place)
  block_keeps (Input channel) place pp h = λ word small. counted_down (stores_at pp place word) (kept_at pp h place word small) (Input channel) place
  block_keeps (Output channel) place pp h = (word_small pp h place, counted_down pp h (Output channel) place)

  either_step : (test : Bool) (step other : Step) → StepKeeps step → StepKeeps other → StepKeeps (if test then step else other)
  either_step test step other k l = grind arith

  pub next_keeps : (pp : Processor) → IsOf profile pp → StepKeeps (next_step pp)
  next_keeps pp h = grind (arith, either_step, row_keeps, block_keeps)

  pub kept_after : (pp : Processor) (answer : Answer) → IsOf profile pp → IsSmallAnswer answer → IsOf profile (processor_after pp answer)
  unfolding processor_after
  kept_after pp answer h small = grind (arith, next_keeps, at_rest, either, ended, kept_at)
