-- What is foreseen of an instruction can happen: for each operation some contents of A and an answer.
use Rattle.std.proofs.Common.{◌≡◌, ℕ, ◌<◌, ◌^◌, ◌==◌, not, Bool, true, false, List, Option, Some, None, IfSome, length, is_some, option_map, inl, inr, refl, sym, ap, ◌∙◌, arith, eqb-true, get_or-set_same, if◌then◌else◌}
use Rattle.std.specs.Prelude.{◌&&◌, ◌||◌}
use Rattle.pp_word.specs.Address.{next_place, place_after, place_count, relative_to}
use Rattle.pp_word.specs.Bits.{lowest_bits}
use Rattle.pp_word.specs.Opcode.{length_of}
use Rattle.pp_word.specs.declared.opcode.Opcode.{Opcode}
use Rattle.pp_word.specs.declared.opcode.Opcode.TheVariants.{LJM, RJM, UJN, ZJN, NJN, PJN, MJN, EXN, RPN, CRD, CRM, CWD, CWM, AJM, IJM, FJM, EJM, IAN, IAM, OAN, OAM, ACN, DCN, FAN, FNC}
use Rattle.pp_channel.specs.declared.reply.Reply.{Reply}
use Rattle.pp_numbers.specs.Profile.{has_channel}
use Rattle.pp_numbers.specs.declared.profile.Profile.{Profile}
use Rattle.pp_processor.specs.Block.{ends, keeps_place, starts}
use Rattle.pp_processor.specs.Effect.{faults, goes_to, is_negative, jumps_where, leads_to_itself, stops}
use Rattle.pp_processor.specs.Foreseen.{jump_from, may_go_on, sure_fault}
use Rattle.pp_processor.specs.InstructionTable.{row, works_on_channel}
use Rattle.pp_processor.specs.NeedAndEffect.{answered, is_held, need, outcome, processor_after}
use Rattle.pp_processor.specs.Operand.{lower_six, operation, second_word}
use Rattle.pp_processor.specs.Processor.{IsAtFault, IsProcessor, Processor}
use Rattle.pp_processor.specs.Replay.{fits}
use Rattle.pp_processor.specs.Step.{Step, local, need_of}
use Rattle.pp_processor.specs.declared.{answer.Answer.Answer, block.Block.Block, block.BlockKind.BlockKind, outcome.Outcome.Outcome, pp_state.PpState.PpState}
use Rattle.pp_processor.specs.declared.answer.Answer.TheVariants.{Local, Channel, Read, Wrote}
use Rattle.pp_processor.specs.declared.pp_state.PpState.TheVariants.{Running, Fault}
use Rattle.pp_instructions.specs.ForeseenLaw.{CanBecome, CanHappen, HasGoneOn, HasJumped, with_a}

-- some contents of A and some answer to a step with them leave a processor such
record Can (pp : Processor) (step : ℕ → Step) (Such : Processor → Type 0) : Type 0 where
  a : ℕ
  answer : Answer
  of_18_bits : a < 2 ^ 18
  fits : fits (need_of (step a)) answer ≡ true
  moves : is_held None answer ≡ false
  becomes : Such (answered (step a) (with_a a pp) answer)

abbrev CanAtRow : Opcode → Processor → ℕ → (Processor → Type 0) → Type 0
CanAtRow op pp d Such = Can pp (λ a. row op (with_a a pp) d) Such

-- a running processor in no block
record IsFree (pp : Processor) : Type 0 where
  running : pp.state ≡ Running
  free : pp.block ≡ None
  long_memory : length pp.memory ≡ place_count
  p : pp.p < 2 ^ 12

abbrev lacks_channel : Opcode → Profile → ℕ → Bool
lacks_channel op profile d = works_on_channel op && not (has_channel profile d)

-- ---- the contents of A by which an instruction goes on

abbrev a_to_go_on : Opcode → ℕ
a_to_go_on ZJN = 1
a_to_go_on op = 0

negative : (pp : Processor) → is_negative (with_a 0o400000 pp) ≡ true
unfolding lowest_bits
negative pp = refl

positive : (pp : Processor) → is_negative (with_a 0 pp) ≡ false
unfolding lowest_bits
positive pp = refl

-- ---- and the answer

abbrev flags : Bool → Bool → Answer
flags active full = Channel (Reply.Flags (record { active = active; full = full }))

abbrev answer_to_go_on : Opcode → Answer
answer_to_go_on CRD = Read (Some 0)
answer_to_go_on CWD = Wrote true
answer_to_go_on AJM = flags false false
answer_to_go_on IJM = flags true false
answer_to_go_on FJM = flags true false
answer_to_go_on EJM = flags true true
answer_to_go_on IAN = Channel (Reply.Word 0)
answer_to_go_on OAN = Channel Reply.Done
answer_to_go_on ACN = Channel Reply.Done
answer_to_go_on DCN = Channel Reply.Done
answer_to_go_on FAN = Channel Reply.Done
answer_to_go_on FNC = Channel Reply.Done
answer_to_go_on op = Local

-- ---- that it goes on

clear : (lacks : Bool) → not (is_some {T = ℕ} (if lacks then Some 3 else None)) ≡ true → lacks ≡ false
clear false goes = refl
clear true goes = absurd (cc)

has_its_channel : (op : Opcode) (profile : Profile) (d : ℕ) → may_go_on profile op d ≡ true → lacks_channel op profile d ≡ false
has_its_channel LJM profile d goes = refl
has_its_channel RJM profile d goes = refl
has_its_channel UJN profile d goes = refl
has_its_channel EXN profile d goes = refl
has_its_channel RPN profile d goes = refl
has_its_channel op profile d goes = clear (lacks_channel op profile d) goes

passes : (pp : Processor) (a d : ℕ) → IsFree pp → (test : Bool) → test ≡ false → HasGoneOn (place_after pp.p 1) (jumps_where test (with_a a pp) d 1)
passes pp a d it false is = (it.running, inl (it.free, refl))
passes pp a d it true is = absurd (cc)

kept_place : (pp : Processor) → length pp.memory ≡ place_count → (ends (keeps_place pp)).p ≡ place_after pp.p 2
kept_place pp long = ap next_place (get_or-set_same pp.memory 0 (next_place pp.p) 0 (omega (arith, long))) ∙ omega arith

-- a block begins, or ends at once
begins : (pp : Processor) (count : ℕ) (kind : BlockKind) → IsFree pp → (none : Bool) → (count == 0) ≡ none → HasGoneOn (place_after pp.p 2) (starts (with_a 0 pp) count kind)
begins pp count kind it true is = rw is (it.running, inl (refl, kept_place (with_a 0 pp) it.long_memory))
begins pp count kind it false is = rw is (it.running, inr (refl, kept_place (with_a 0 pp) it.long_memory))

-- by A and an answer of the tables
goes_on : (op : Opcode) (pp : Processor) (d : ℕ) → IsFree pp → may_go_on pp.profile op d ≡ true → CanAtRow op pp d (HasGoneOn (place_after pp.p (length_of op)))
goes_on LJM pp d it goes = absurd (cc)
goes_on RJM pp d it goes = absurd (cc)
goes_on UJN pp d it goes = absurd (cc)
goes_on EXN pp d it goes = absurd (cc)
goes_on RPN pp d it goes = absurd (cc)
goes_on PJN pp d it goes = record { a = 0o400000; answer = Local; of_18_bits = omega arith; fits = refl; moves = refl; becomes = passes pp 0o400000 d it _ (ap not (negative pp)) }
goes_on MJN pp d it goes = record { a = 0; answer = Local; of_18_bits = omega arith; fits = refl; moves = refl; becomes = passes pp 0 d it _ (positive pp) }
goes_on CRM pp d it goes = record { a = 0; answer = Local; of_18_bits = omega arith; fits = refl; moves = refl; becomes = begins pp _ _ it _ refl }
goes_on CWM pp d it goes = record { a = 0; answer = Local; of_18_bits = omega arith; fits = refl; moves = refl; becomes = begins pp _ _ it _ refl }
goes_on IAM pp d it goes = record { a = 0; answer = Local; of_18_bits = omega arith; fits = refl; moves = refl; becomes = (it.running, inl (refl, kept_place (with_a 0 pp) it.long_memory)) }
goes_on OAM pp d it goes = record { a = 0; answer = Local; of_18_bits = omega arith; fits = refl; moves = refl; becomes = (it.running, inl (refl, kept_place (with_a 0 pp) it.long_memory)) }
goes_on op pp d it goes = record {
  a = a_to_go_on op;
  answer = answer_to_go_on op;
  of_18_bits = omega arith;
  fits = refl;
  moves = refl;
  becomes = (it.running, inl (it.free, refl));
}

-- ---- that it jumps

to_second : (jumps : Bool) (m : Option ℕ) (second other target : ℕ) → IfSome m (λ word. word ≡ second) → (if jumps then m else None) ≡ Some target → (if jumps then second else other) ≡ target
to_second true (Some word) second other target is jump = sym is ∙ cc
to_second true None second other target is jump = absurd (cc)
to_second false m second other target is jump = absurd (cc)

behind_second : (jumps : Bool) (m : Option ℕ) (second other target : ℕ) → IfSome m (λ word. word ≡ second) → (if jumps then option_map next_place m else None) ≡ Some target
    → next_place (if jumps then second else other) ≡ target
behind_second true (Some word) second other target is jump = ap next_place (sym is) ∙ cc
behind_second true None second other target is jump = absurd (cc)
behind_second false m second other target is jump = absurd (cc)

by_channel : (has : Bool) (m : Option ℕ) (second target : ℕ) → IfSome m (λ word. word ≡ second) → (if has then m else None) ≡ Some target → (second ≡ target) × (not has ≡ false)
by_channel true (Some word) second target is jump = (sym is ∙ cc, refl)
by_channel true None second target is jump = absurd (cc)
by_channel false m second target is jump = absurd (cc)

to_itself : (p d : ℕ) → p < 2 ^ 12 → leads_to_itself d ≡ true → p ≡ relative_to p d
to_itself p d below is = by (d == 0) (d == 0o77) refl refl is
  where
    by : (first last : Bool) → (d == 0) ≡ first → (d == 0o77) ≡ last → (first || last) ≡ true → p ≡ relative_to p d
    by true last is_first is_last either = rw (eqb-true d 0 is_first) (omega (arith, below))
    by false true is_first is_last either = rw (eqb-true d 0o77 is_last) (omega (arith, below))
    by false false is_first is_last either = absurd (cc)

-- a relative jump, by UJN or by a test that holds
module _ (pp : Processor) (a d target : ℕ) (it : IsFree pp) (jump : Some (relative_to pp.p d) ≡ Some target) where
  jumps_or_stops : (itself : Bool) → leads_to_itself d ≡ itself → HasJumped pp.p target (if itself then stops (with_a a pp) else goes_to (with_a a pp) (relative_to pp.p d))
  jumps_or_stops true is = let there : pp.p ≡ target = to_itself pp.p d it.p is ∙ cc in (there, it.free, inr (refl, sym there))
  jumps_or_stops false is = (cc, it.free, inl it.running)

  jumps_on : (itself : Bool) → leads_to_itself d ≡ itself → HasJumped pp.p target (if itself then with_a a pp else goes_to (with_a a pp) (relative_to pp.p d))
  jumps_on true is = (to_itself pp.p d it.p is ∙ cc, it.free, inl it.running)
  jumps_on false is = (cc, it.free, inl it.running)

  jumps_by : (test : Bool) → test ≡ true → HasJumped pp.p target (jumps_where test (with_a a pp) d 1)
  jumps_by true is = jumps_on (leads_to_itself d) refl
  jumps_by false is = absurd (cc)

-- an instruction that has its channel, if it works on one
record CanIfThere (op : Opcode) (pp : Processor) (d : ℕ) (Such : Processor → Type 0) : Type 0 where
  there : lacks_channel op pp.profile d ≡ false
  can : CanAtRow op pp d Such

jumps : (op : Opcode) (pp : Processor) (d : ℕ) → IsFree pp → (m : Option ℕ) (target : ℕ) → IfSome m (λ word. word ≡ second_word pp) → jump_from pp.profile op pp.p d m ≡ Some target → CanIfThere op pp d (HasJumped pp.p target)
jumps LJM pp d it m target is jump = record { there = refl; can = record { a = 0; answer = Local; of_18_bits = omega arith; fits = refl; moves = refl; becomes = (to_second (d == 0) m (second_word pp) _ target is jump, it.free, inl it.running) } }
jumps RJM pp d it m target is jump = record { there = refl; can = record { a = 0; answer = Local; of_18_bits = omega arith; fits = refl; moves = refl; becomes = (behind_second (d == 0) m (second_word pp) _ target is jump, it.free, inl it.running) } }
jumps UJN pp d it m target is jump = record { there = refl; can = record { a = 0; answer = Local; of_18_bits = omega arith; fits = refl; moves = refl; becomes = jumps_or_stops pp 0 d target it jump _ refl } }
jumps ZJN pp d it m target is jump = record { there = refl; can = record { a = 0; answer = Local; of_18_bits = omega arith; fits = refl; moves = refl; becomes = jumps_on pp 0 d target it jump _ refl } }
jumps NJN pp d it m target is jump = record { there = refl; can = record { a = 1; answer = Local; of_18_bits = omega arith; fits = refl; moves = refl; becomes = jumps_on pp 1 d target it jump _ refl } }
jumps PJN pp d it m target is jump = record { there = refl; can = record { a = 0; answer = Local; of_18_bits = omega arith; fits = refl; moves = refl; becomes = jumps_by pp 0 d target it jump _ (ap not (positive pp)) } }
jumps MJN pp d it m target is jump =
    record { there = refl; can = record { a = 0o400000; answer = Local; of_18_bits = omega arith; fits = refl; moves = refl; becomes = jumps_by pp 0o400000 d target it jump _ (negative pp) } }
jumps AJM pp d it m target is jump = let both = by_channel (has_channel pp.profile d) m (second_word pp) target is jump in
    record { there = both.1; can = record { a = 0; answer = flags true false; of_18_bits = omega arith; fits = refl; moves = refl; becomes = (both.0, it.free, inl it.running) } }
jumps IJM pp d it m target is jump = let both = by_channel (has_channel pp.profile d) m (second_word pp) target is jump in
    record { there = both.1; can = record { a = 0; answer = flags false false; of_18_bits = omega arith; fits = refl; moves = refl; becomes = (both.0, it.free, inl it.running) } }
jumps FJM pp d it m target is jump = let both = by_channel (has_channel pp.profile d) m (second_word pp) target is jump in
    record { there = both.1; can = record { a = 0; answer = flags true true; of_18_bits = omega arith; fits = refl; moves = refl; becomes = (both.0, it.free, inl it.running) } }
jumps EJM pp d it m target is jump = let both = by_channel (has_channel pp.profile d) m (second_word pp) target is jump in
    record { there = both.1; can = record { a = 0; answer = flags true false; of_18_bits = omega arith; fits = refl; moves = refl; becomes = (both.0, it.free, inl it.running) } }
jumps op pp d it m target is jump = absurd (cc)

-- ---- that it doesn't fault

not_at_fault : (state : PpState) → state ≡ Running → ¬ ((number : ℕ) × (state ≡ Fault number))
not_at_fault state running fault = let both : Running ≡ Fault fault.0 = sym running ∙ fault.1 in absurd (cc)

stopped_is_no_fault : (pp : Processor) (a d : ℕ) → IsFree pp → (itself : Bool) → ¬ IsAtFault (if itself then stops (with_a a pp) else goes_to (with_a a pp) (relative_to pp.p d))
stopped_is_no_fault pp a d it true = λ fault. let both = fault.1 in absurd (cc)
stopped_is_no_fault pp a d it false = not_at_fault pp.state it.running

gone_on : (op : Opcode) (pp : Processor) (d behind : ℕ) → lacks_channel op pp.profile d ≡ false → CanAtRow op pp d (HasGoneOn behind) → CanIfThere op pp d (λ after. ¬ IsAtFault after)
gone_on op pp d behind there can = record {
  there = there;
  can = record {
    a = can.a;
    answer = can.answer;
    of_18_bits = can.of_18_bits;
    fits = can.fits;
    moves = can.moves;
    becomes = not_at_fault _ can.becomes.0;
  };
}

lacks_fault : (op : Opcode) (pp : Processor) (d : ℕ) → IsFree pp → sure_fault pp.profile op d ≡ None → CanIfThere op pp d (λ after. ¬ IsAtFault after)
lacks_fault LJM pp d it none = record { there = refl; can = record { a = 0; answer = Local; of_18_bits = omega arith; fits = refl; moves = refl; becomes = not_at_fault pp.state it.running } }
lacks_fault RJM pp d it none = record { there = refl; can = record { a = 0; answer = Local; of_18_bits = omega arith; fits = refl; moves = refl; becomes = not_at_fault pp.state it.running } }
lacks_fault UJN pp d it none = record { there = refl; can = record { a = 0; answer = Local; of_18_bits = omega arith; fits = refl; moves = refl; becomes = stopped_is_no_fault pp 0 d it _ } }
lacks_fault EXN pp d it none = absurd (cc)
lacks_fault RPN pp d it none = absurd (cc)
lacks_fault op pp d it none =
    let goes : may_go_on pp.profile op d ≡ true = ap (λ fault. not (is_some fault)) none in
    gone_on op pp d _ (has_its_channel op pp.profile d goes) (goes_on op pp d it goes)

-- ---- the next step of a running processor

by_lack : (lacks : Bool) (op : Opcode) (pp : Processor) (d : ℕ) {Such : Processor → Type 0} → lacks ≡ false → CanAtRow op pp d Such
    → Can pp (λ a. if lacks then local (faults (with_a a pp) 3) else row op (with_a a pp) d) Such
by_lack false op pp d there can = can
by_lack true op pp d there can = absurd (cc)

module _ (profile : Profile) (memory : List ℕ) (a p : ℕ) where
  abbrev at : PpState → Option Block → Processor
  at state block = record { profile = profile; memory = memory; a = a; p = p; state = state; block = block }

  becomes : (state : PpState) (block : Option Block) → state ≡ Running → block ≡ None → {Such : Processor → Type 0}
      → CanIfThere (operation (at state block)) (at state block) (lower_six (at state block)) Such → CanBecome (at state block) Such
  unfolding need outcome processor_after
  becomes Running None running free can =
      let pp : Processor = at Running None in
      let made = by_lack (lacks_channel (operation pp) profile (lower_six pp)) (operation pp) pp (lower_six pp) can.there can.can in
      record {
        a = made.a;
        answer = made.answer;
        of_18_bits = made.of_18_bits;
        fits = made.fits;
        moves = ap (λ held. if held then Outcome.Held else Outcome.Moved) made.moves;
        becomes = made.becomes;
      }
  becomes Running (Some block) running free can = absurd (cc)
  becomes state block running free can = absurd (cc)

pub can_happen : (pp : Processor) → IsProcessor pp → pp.state ≡ Running → pp.block ≡ None → CanHappen pp
can_happen pp is running free =
    let it : IsFree pp = record { running = running; free = free; long_memory = is.memory.each_place; p = is.p } in
    record {
      goes_on = λ goes. becomes pp.profile pp.memory pp.a pp.p pp.state pp.block running free
          (record { there = has_its_channel (operation pp) pp.profile (lower_six pp) goes; can = goes_on (operation pp) pp (lower_six pp) it goes });
      jumps = λ m target second jump. becomes pp.profile pp.memory pp.a pp.p pp.state pp.block running free (jumps (operation pp) pp (lower_six pp) it m target second jump);
      lacks_fault = λ none. becomes pp.profile pp.memory pp.a pp.p pp.state pp.block running free (lacks_fault (operation pp) pp (lower_six pp) it none);
    }
