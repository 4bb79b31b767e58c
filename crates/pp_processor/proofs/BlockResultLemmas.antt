-- The results of whole block transfers.
use Rattle.std.proofs.Common.{◌≡◌, ℕ, ◌+◌, ◌-◌, ◌*◌, ◌%◌, ◌^◌, ◌<◌, ◌≤◌, Bool, true, List, [], ◌∷◌, ◌++◌, None, Some, map, replicate, take, length, slice_index, slice_set, refl, ap, ◌∙◌, sym, subst, arith, add-one}
use Rattle.std.proofs.lemmas.Grind.{common_steps}
use Rattle.std.proofs.lemmas.List.{take-map, take-replicate, length-take-le, take-append-le, length-map, length-replicate}
use Rattle.pp_word.specs.Address.{place_count, place_after}
use Rattle.pp_word.specs.OnesComplement.{sum}
use Rattle.pp_word.specs.declared.opcode.Opcode.TheVariants.{IAM, OAM, CRM, CWM}
use Rattle.pp_channel.specs.declared.chan_op.ChanOp.TheVariants.{Put, Take}
use Rattle.pp_channel.specs.declared.reply.Reply.TheVariants.{Done, Word}
use Rattle.pp_processor.specs.Block.{central_from, keeps_place, starts}
use Rattle.pp_processor.specs.BlockResults.{kept_memory, BringsWords, EndsBlock, need_before_answer, inactive, input_answers, output_answers, TakesWords, PutsWords, ReadsCentrals, WritesCentrals, CompleteInput, ShortInput, CompleteOutput, ShortOutput, CentralRead, CentralWrite, address_of}
use Rattle.pp_processor.specs.InstructionTable.{instruction}
use Rattle.pp_processor.specs.NeedAndEffect.{need, processor_after}
use Rattle.pp_processor.specs.Operand.{operation, lower_six, second_word}
use Rattle.pp_processor.specs.PpMemory.{IsMemory}
use Rattle.pp_processor.specs.Processor.{Processor, IsProcessor, word_at}
use Rattle.pp_numbers.specs.Profile.{has_channel}
use Rattle.pp_processor.specs.Replay.{fits, replayed}
use Rattle.pp_processor.specs.Step.{local}
use Rattle.pp_processor.specs.declared.{answer.Answer.Answer, block.BlockKind.BlockKind}
use Rattle.pp_processor.specs.declared.answer.Answer.TheVariants.{Local, Channel, Read, Wrote}
use Rattle.pp_processor.specs.declared.block.BlockKind.TheVariants.{CentralIn, CentralOut, Input, Output}
use Rattle.pp_processor.specs.declared.need.Need.TheVariants as needs
use Rattle.pp_processor.specs.declared.pp_state.PpState.TheVariants.{Running}
use Rattle.pp_numbers.specs.declared.profile.Profile.{Profile}
use Rattle.pp_processor.proofs.BlockLemmas.{idle, position, over, inputs, input_closed, input_need, outputs, output_cut, output_need, centrals_in, central_in_need, centrals_out, central_out_need, address_of-some}
use Rattle.pp_processor.proofs.ReplayLemmas.{Gives, Gives-append, Gives-to, replayed-Gives, given_count-Gives}
use Rattle.pp_processor.proofs.StoredLemmas.{stored, stored-append, stored-cons, stored-nil, BringsWords-stored, parts_of_all, length-parts_of_all, slice_index-parts_of_all}

-- CRM: the start, and these central words
abbrev read_answers : List ℕ → List Answer
read_answers centrals = Local ∷ map (λ central. Read (Some central)) centrals

-- CWM: the start, and this many central words written
abbrev write_answers : ℕ → List Answer
write_answers count = Local ∷ replicate count (Wrote true)

module _ (profile : Profile) where
  -- the start of a block
  start_fits : (memory : List ℕ) (a p count : ℕ) (kind : BlockKind) →
      instruction (operation (idle profile memory a p)) (idle profile memory a p) (lower_six (idle profile memory a p)) ≡ local (starts (idle profile memory a p) count kind) → fits (need (idle profile memory a p)) Local ≡ true
  unfolding need
  start_fits memory a p count kind e = rw e refl

  start_after : (memory : List ℕ) (a p count : ℕ) (kind : BlockKind) →
      instruction (operation (idle profile memory a p)) (idle profile memory a p) (lower_six (idle profile memory a p)) ≡ local (starts (idle profile memory a p) count kind) → processor_after (idle profile memory a p) Local ≡ starts (idle profile memory a p) count kind
  unfolding processor_after
  start_after memory a p count kind e = rw e refl

  -- place m is place 0 of the places from m on
  place_from-zero : (memory : List ℕ) (a p : ℕ) → IsMemory memory →
      place_after (second_word (idle profile memory a p)) 0 ≡ second_word (idle profile memory a p)
  place_from-zero memory a p is_memory = let small = is_memory.each_word ((p + 1) % place_count) in omega arith

  -- a block gives its start, and then what its words give
  pub started : (memory : List ℕ) (a p count : ℕ) (kind : BlockKind) (xs : List Answer) (new : Processor) →
      IsMemory memory →
      instruction (operation (idle profile memory a p)) (idle profile memory a p) (lower_six (idle profile memory a p)) ≡ local (starts (idle profile memory a p) count kind) → Gives (position profile count (kept_memory (idle profile memory a p)) a p kind (place_after (second_word (idle profile memory a p)) 0)) xs new → Gives (idle profile memory a p) (Local ∷ xs) new
  started memory a p count kind xs new is_memory e g = grind (arith, idle, position, place_from-zero, start_fits, start_after)

  input_row : (memory : List ℕ) (a p : ℕ) → operation (idle profile memory a p) ≡ IAM →
      has_channel profile (lower_six (idle profile memory a p)) ≡ true →
      instruction (operation (idle profile memory a p)) (idle profile memory a p) (lower_six (idle profile memory a p)) ≡ local (starts (idle profile memory a p) a (Input (lower_six (idle profile memory a p))))
  input_row memory a p code named = rw (code, named) refl

  output_row : (memory : List ℕ) (a p : ℕ) → operation (idle profile memory a p) ≡ OAM →
      has_channel profile (lower_six (idle profile memory a p)) ≡ true →
      instruction (operation (idle profile memory a p)) (idle profile memory a p) (lower_six (idle profile memory a p)) ≡ local (starts (idle profile memory a p) a (Output (lower_six (idle profile memory a p))))
  output_row memory a p code named = rw (code, named) refl

  central_in_row : (memory : List ℕ) (a p count : ℕ) → operation (idle profile memory a p) ≡ CRM →
      count ≡ word_at (idle profile memory a p) (lower_six (idle profile memory a p)) →
      instruction (operation (idle profile memory a p)) (idle profile memory a p) (lower_six (idle profile memory a p)) ≡ local (starts (idle profile memory a p) count (CentralIn count))
  central_in_row memory a p count code e = rw (code, e) refl

  central_out_row : (memory : List ℕ) (a p count : ℕ) → operation (idle profile memory a p) ≡ CWM →
      count ≡ word_at (idle profile memory a p) (lower_six (idle profile memory a p)) →
      instruction (operation (idle profile memory a p)) (idle profile memory a p) (lower_six (idle profile memory a p)) ≡ local (starts (idle profile memory a p) count (CentralOut count))
  central_out_row memory a p count code e = rw (code, e) refl

  -- a block that is over has ended
  ends_over : (pp : Processor) (xs : List Answer) (memory : List ℕ) (a : ℕ) → Gives pp xs (over profile memory a) →
      EndsBlock pp xs a
  ends_over pp xs memory a g = grind (arith, over, replayed-Gives, given_count-Gives)

  memory_over : (pp : Processor) (xs : List Answer) (memory : List ℕ) (a : ℕ) → Gives pp xs (over profile memory a) →
      (replayed pp xs).memory ≡ memory
  memory_over pp xs memory a g = ap (λ t. t.memory) (replayed-Gives xs pp (over profile memory a) g)

  length-kept : (memory : List ℕ) (a p : ℕ) → IsMemory memory → length (kept_memory (idle profile memory a p)) ≡ place_count
  length-kept memory a p is_memory = let long = is_memory.each_place in grind (arith, common_steps)

  -- the need that answer i meets is that of the processor after those before it
  met : (pp middle : Processor) (x : Answer) (xs front : List Answer) (i : ℕ) → take i xs ≡ front →
      Gives pp (x ∷ front) middle → need_before_answer pp (x ∷ xs) i ≡ need middle
  met pp middle x xs front i e g =
      let more : take (i + 1) (x ∷ xs) ≡ x ∷ front = rw add-one (ap (λ zs. x ∷ zs) e) in
      rw more (ap (λ t. need t) (replayed-Gives (x ∷ front) pp middle g))

  -- 71

  input_gives : (memory : List ℕ) (a p : ℕ) (words : List ℕ) → IsProcessor (idle profile memory a p) →
      operation (idle profile memory a p) ≡ IAM → has_channel profile (lower_six (idle profile memory a p)) ≡ true → length words ≤ a →
      Gives (idle profile memory a p) (input_answers words) (position profile (a - length words) (stored (kept_memory (idle profile memory a p)) (second_word (idle profile memory a p)) 0 words) (a - length words) p (Input (lower_six (idle profile memory a p))) (place_after (second_word (idle profile memory a p)) (0 + length words)))
  input_gives memory a p words ok code named h =
      started memory a p a (Input (lower_six (idle profile memory a p))) (map (λ word. Channel (Word word)) words) _ ok.memory (input_row memory a p code named)
      (inputs profile words (kept_memory (idle profile memory a p)) a p (lower_six (idle profile memory a p)) (second_word (idle profile memory a p)) 0 h ok.a)

  input_takes : (memory : List ℕ) (a p : ℕ) (words : List ℕ) (xs : List Answer) (i : ℕ) →
      IsProcessor (idle profile memory a p) → operation (idle profile memory a p) ≡ IAM →
      has_channel profile (lower_six (idle profile memory a p)) ≡ true → length words ≤ a → i < length words →
      take i xs ≡ map (λ word. Channel (Word word)) (take i words) →
      need_before_answer (idle profile memory a p) (Local ∷ xs) i ≡ needs.Channel (lower_six (idle profile memory a p)) Take
  input_takes memory a p words xs i ok code named h k e =
      let front : length (take i words) ≡ i = length-take-le i words (omega arith) in
      let gives = input_gives memory a p (take i words) ok code named (omega arith) in
      met (idle profile memory a p) _ Local xs (map (λ word. Channel (Word word)) (take i words)) i e gives
      ∙ input_need profile (a - length (take i words)) _ _ p (lower_six (idle profile memory a p)) _ (omega arith)

  complete_input_idle : (memory : List ℕ) (a p : ℕ) (words : List ℕ) → IsProcessor (idle profile memory a p) →
      operation (idle profile memory a p) ≡ IAM → has_channel profile (lower_six (idle profile memory a p)) ≡ true → length words ≡ a →
      length words ≤ place_count → EndsBlock (idle profile memory a p) (input_answers words) 0
      × TakesWords (idle profile memory a p) (input_answers words) (length words) words
  complete_input_idle memory a p words ok code named e h =
      let m = second_word (idle profile memory a p) in
      let kept = kept_memory (idle profile memory a p) in
      let new = stored kept m 0 words in
      let none : a - length words ≡ 0 = omega arith in
      let gives : Gives (idle profile memory a p) (input_answers words) (over profile new 0) = Gives-to (idle profile memory a p) _ (over profile new 0) (input_answers words) (input_gives memory a p words ok code named (omega arith)) (rw none refl) in (
        ends_over (idle profile memory a p) (input_answers words) new 0 gives,
        record {
          takes = λ i k. input_takes memory a p words (map (λ word. Channel (Word word)) words) i ok code named (omega arith) k (take-map (λ word. Channel (Word word)) i words);
          memory = rw (memory_over (idle profile memory a p) (input_answers words) new 0 gives) (BringsWords-stored words kept m h (length-kept memory a p ok.memory));
        },
      )

  short_input_idle : (memory : List ℕ) (a p : ℕ) (words : List ℕ) (full : Bool) → IsProcessor (idle profile memory a p) →
      operation (idle profile memory a p) ≡ IAM → has_channel profile (lower_six (idle profile memory a p)) ≡ true → length words < a →
      length words < place_count →
      EndsBlock (idle profile memory a p) (input_answers words ++ inactive full ∷ []) (a - length words)
      × TakesWords (idle profile memory a p) (input_answers words ++ inactive full ∷ []) (length words) (words ++ 0 ∷ [])
  short_input_idle memory a p words full ok code named h k =
      let pp = idle profile memory a p in
      let m = second_word pp in
      let kept = kept_memory pp in
      let left = a - length words in
      let answers = input_answers words ++ inactive full ∷ [] in
      let new = stored kept m 0 (words ++ 0 ∷ []) in
      let closing : slice_set (stored kept m 0 words) (place_after m (0 + length words)) 0 ≡ new = sym (stored-append words (0 ∷ []) kept m 0 ∙ stored-cons (stored kept m 0 words) m (0 + length words) 0 [] ∙ stored-nil _ m (0 + length words + 1)) in
      let last = input_closed profile left (stored kept m 0 words) left p (lower_six pp) (place_after m (0 + length words)) full (omega arith) in
      let gives : Gives pp answers (over profile new left) = Gives-to pp _ (over profile new left) answers (Gives-append (input_answers words) (inactive full ∷ []) pp _ _ (input_gives memory a p words ok code named (omega arith)) last) (ap (λ x. over profile x left) closing) in
      let fits_in : length (words ++ 0 ∷ []) ≤ place_count = grind (arith, common_steps) in
      let front : (i : ℕ) → i < length words → take i (map (λ word. Channel (Word word)) words ++ inactive full ∷ []) ≡ map (λ word. Channel (Word word)) (take i words) = λ i n. let long : length (map (λ word. Channel (Word word)) words) ≡ length words = length-map words (λ word. Channel (Word word)) in take-append-le i (map (λ word. Channel (Word word)) words) (inactive full ∷ []) (omega arith) ∙ take-map (λ word. Channel (Word word)) i words in (
        ends_over pp answers new left gives,
        record {
          takes = λ i n. input_takes memory a p words (map (λ word. Channel (Word word)) words ++ inactive full ∷ []) i ok code named (omega arith) n (front i n);
          memory = rw (memory_over pp answers new left gives) (BringsWords-stored (words ++ 0 ∷ []) kept m fits_in (length-kept memory a p ok.memory));
        },
      )

  -- 73

  output_gives : (memory : List ℕ) (a p count : ℕ) → IsProcessor (idle profile memory a p) →
      operation (idle profile memory a p) ≡ OAM → has_channel profile (lower_six (idle profile memory a p)) ≡ true → count ≤ a →
      Gives (idle profile memory a p) (output_answers count) (position profile (a - count) (kept_memory (idle profile memory a p)) (a - count) p (Output (lower_six (idle profile memory a p))) (place_after (second_word (idle profile memory a p)) (0 + count)))
  output_gives memory a p count ok code named h =
      started memory a p a (Output (lower_six (idle profile memory a p))) (replicate count (Channel Done)) _ ok.memory (output_row memory a p code named)
      (outputs profile count (kept_memory (idle profile memory a p)) a p (lower_six (idle profile memory a p)) (second_word (idle profile memory a p)) 0 h ok.a)

  output_puts : (memory : List ℕ) (a p count : ℕ) (xs : List Answer) (i : ℕ) → IsProcessor (idle profile memory a p) →
      operation (idle profile memory a p) ≡ OAM → has_channel profile (lower_six (idle profile memory a p)) ≡ true → count ≤ a →
      i < count → take i xs ≡ replicate i (Channel Done) →
      need_before_answer (idle profile memory a p) (Local ∷ xs) i ≡ needs.Channel (lower_six (idle profile memory a p)) (Put (slice_index (kept_memory (idle profile memory a p)) (place_after (second_word (idle profile memory a p)) i)))
  output_puts memory a p count xs i ok code named h k e =
      let pp = idle profile memory a p in
      let here : 0 + i ≡ i = omega arith in
      met pp _ Local xs (replicate i (Channel Done)) i e (output_gives memory a p i ok code named (omega arith))
      ∙ output_need profile (a - i) (kept_memory pp) (a - i) p (lower_six pp) (place_after (second_word pp) (0 + i)) (omega arith)
      ∙ ap (λ x. needs.Channel (lower_six pp) (Put (slice_index (kept_memory pp) (place_after (second_word pp) x)))) here

  complete_output_idle : (memory : List ℕ) (a p : ℕ) → IsProcessor (idle profile memory a p) →
      operation (idle profile memory a p) ≡ OAM → has_channel profile (lower_six (idle profile memory a p)) ≡ true →
      EndsBlock (idle profile memory a p) (output_answers a) 0 × PutsWords (idle profile memory a p) (output_answers a) a
  complete_output_idle memory a p ok code named =
      let pp = idle profile memory a p in
      let kept = kept_memory pp in
      let none : a - a ≡ 0 = omega arith in
      let gives : Gives pp (output_answers a) (over profile kept 0) = Gives-to pp _ (over profile kept 0) (output_answers a) (output_gives memory a p a ok code named (omega arith)) (rw none refl) in (
        ends_over pp (output_answers a) kept 0 gives,
        record {
          puts = λ i k. output_puts memory a p a (replicate a (Channel Done)) i ok code named (omega arith) k (take-replicate i a (Channel Done) (omega arith));
          memory = memory_over pp (output_answers a) kept 0 gives;
        },
      )

  short_output_idle : (memory : List ℕ) (a p count : ℕ) (full : Bool) → IsProcessor (idle profile memory a p) →
      operation (idle profile memory a p) ≡ OAM → has_channel profile (lower_six (idle profile memory a p)) ≡ true → count < a →
      EndsBlock (idle profile memory a p) (output_answers count ++ inactive full ∷ []) (a - count)
      × PutsWords (idle profile memory a p) (output_answers count ++ inactive full ∷ []) count
  short_output_idle memory a p count full ok code named h =
      let pp = idle profile memory a p in
      let kept = kept_memory pp in
      let answers = output_answers count ++ inactive full ∷ [] in
      let last = output_cut profile (a - count) kept (a - count) p (lower_six pp) (place_after (second_word pp) (0 + count)) full (omega arith) in
      let gives : Gives pp answers (over profile kept (a - count)) = Gives-append (output_answers count) (inactive full ∷ []) pp _ _ (output_gives memory a p count ok code named (omega arith)) last in
      let front : (i : ℕ) → i < count → take i (replicate count (Channel Done) ++ inactive full ∷ []) ≡ replicate i (Channel Done) = λ i n. let long : length (replicate count (Channel Done)) ≡ count = length-replicate count (Channel Done) in take-append-le i (replicate count (Channel Done)) (inactive full ∷ []) (omega arith) ∙ take-replicate i count (Channel Done) (omega arith) in (
        ends_over pp answers kept (a - count) gives,
        record {
          puts = λ i n. output_puts memory a p count (replicate count (Channel Done) ++ inactive full ∷ []) i ok code named (omega arith) n (front i n);
          memory = memory_over pp answers kept (a - count) gives;
        },
      )

  -- 61

  central_in_gives : (memory : List ℕ) (a p left : ℕ) (centrals : List ℕ) → IsProcessor (idle profile memory a p) →
      operation (idle profile memory a p) ≡ CRM → left ≡ word_at (idle profile memory a p) (lower_six (idle profile memory a p)) →
      length centrals ≤ left →
      Gives (idle profile memory a p) (read_answers centrals) (position profile (left - length centrals) (stored (kept_memory (idle profile memory a p)) (second_word (idle profile memory a p)) 0 (parts_of_all centrals)) (address_of a (length centrals)) p (CentralIn (left - length centrals)) (place_after (second_word (idle profile memory a p)) (0 + 5 * length centrals)))
  central_in_gives memory a p left centrals ok code e h =
      let pp = idle profile memory a p in
      let small : word_at pp (lower_six pp) < 2 ^ 12 = ok.memory.each_word (lower_six pp) in
      started memory a p left (CentralIn left) (map (λ central. Read (Some central)) centrals) _ ok.memory (central_in_row memory a p left code e)
      (centrals_in profile centrals left (kept_memory pp) a p (second_word pp) 0 h (omega arith))

  central_in_reads : (memory : List ℕ) (a p left : ℕ) (centrals : List ℕ) (i : ℕ) → IsProcessor (idle profile memory a p) →
      operation (idle profile memory a p) ≡ CRM → left ≡ word_at (idle profile memory a p) (lower_six (idle profile memory a p)) →
      length centrals ≤ left → i < length centrals →
      need_before_answer (idle profile memory a p) (read_answers centrals) i ≡ needs.Read (address_of a i)
  central_in_reads memory a p left centrals i ok code e h k =
      let pp = idle profile memory a p in
      let front : length (take i centrals) ≡ i = length-take-le i centrals (omega arith) in
      met pp _ Local (map (λ central. Read (Some central)) centrals) (map (λ central. Read (Some central)) (take i centrals)) i (take-map (λ central. Read (Some central)) i centrals) (central_in_gives memory a p left (take i centrals) ok code e (omega arith))
      ∙ central_in_need profile (left - length (take i centrals)) _ (address_of a (length (take i centrals))) p _ (omega arith)
      ∙ ap (λ n. needs.Read (address_of a n)) front

  central_read_idle : (memory : List ℕ) (a p : ℕ) (centrals : List ℕ) → IsProcessor (idle profile memory a p) →
      operation (idle profile memory a p) ≡ CRM → 0 < length centrals → length centrals ≤ 819 →
      length centrals ≡ word_at (idle profile memory a p) (lower_six (idle profile memory a p)) →
      EndsBlock (idle profile memory a p) (read_answers centrals) (sum a (length centrals))
      × ReadsCentrals (idle profile memory a p) (read_answers centrals) centrals
  central_read_idle memory a p centrals ok code some few e =
      let pp = idle profile memory a p in
      let m = second_word pp in
      let kept = kept_memory pp in
      let n = length centrals in
      let parts = parts_of_all centrals in
      let new = stored kept m 0 parts in
      let none : n - n ≡ 0 = omega arith in
      let gives : Gives pp (read_answers centrals) (over profile new (sum a n)) = Gives-to pp _ (over profile new (sum a n)) (read_answers centrals) (central_in_gives memory a p n centrals ok code e (omega arith)) (rw (none, address_of-some a n some) refl) in
      let long : length parts ≡ 5 * n = length-parts_of_all centrals in
      let brings : BringsWords kept new m (length parts) (λ j. slice_index parts j) = BringsWords-stored parts kept m (omega arith) (length-kept memory a p ok.memory) in (
        ends_over pp (read_answers centrals) new (sum a n) gives,
        record {
          reads = λ i k. central_in_reads memory a p n centrals i ok code e (omega arith) k;
          memory = rw (memory_over pp (read_answers centrals) new (sum a n) gives) (record {
            words = λ j k. brings.words j (omega arith) ∙ slice_index-parts_of_all centrals j k;
            others = λ place k apart. brings.others place k (λ j l. apart j (omega arith));
            each_place = brings.each_place;
          });
        },
      )

  -- 63

  central_out_gives : (memory : List ℕ) (a p left count : ℕ) → IsProcessor (idle profile memory a p) →
      operation (idle profile memory a p) ≡ CWM → left ≡ word_at (idle profile memory a p) (lower_six (idle profile memory a p)) →
      count ≤ left →
      Gives (idle profile memory a p) (write_answers count) (position profile (left - count) (kept_memory (idle profile memory a p)) (address_of a count) p (CentralOut (left - count)) (place_after (second_word (idle profile memory a p)) (0 + 5 * count)))
  central_out_gives memory a p left count ok code e h =
      let pp = idle profile memory a p in
      let small : word_at pp (lower_six pp) < 2 ^ 12 = ok.memory.each_word (lower_six pp) in
      started memory a p left (CentralOut left) (replicate count (Wrote true)) _ ok.memory (central_out_row memory a p left code e)
      (centrals_out profile count left (kept_memory pp) a p (second_word pp) 0 h (omega arith))

  central_out_writes : (memory : List ℕ) (a p count i : ℕ) → IsProcessor (idle profile memory a p) →
      operation (idle profile memory a p) ≡ CWM → count ≡ word_at (idle profile memory a p) (lower_six (idle profile memory a p)) →
      i < count →
      need_before_answer (idle profile memory a p) (write_answers count) i ≡ needs.Write (address_of a i) (central_from (keeps_place (idle profile memory a p)) (place_after (second_word (idle profile memory a p)) (5 * i)))
  central_out_writes memory a p count i ok code e k =
      let pp = idle profile memory a p in
      let here : 0 + 5 * i ≡ 5 * i = omega arith in
      met pp _ Local (replicate count (Wrote true)) (replicate i (Wrote true)) i (take-replicate i count (Wrote true) (omega arith)) (central_out_gives memory a p count i ok code e (omega arith))
      ∙ central_out_need profile (count - i) (kept_memory pp) (address_of a i) p (place_after (second_word pp) (0 + 5 * i)) (omega arith)
      ∙ ap (λ j. needs.Write (address_of a i) (central_from (keeps_place pp) (place_after (second_word pp) j))) here

  central_write_idle : (memory : List ℕ) (a p count : ℕ) → IsProcessor (idle profile memory a p) →
      operation (idle profile memory a p) ≡ CWM → 0 < count →
      count ≡ word_at (idle profile memory a p) (lower_six (idle profile memory a p)) →
      EndsBlock (idle profile memory a p) (write_answers count) (sum a count)
      × WritesCentrals (idle profile memory a p) (write_answers count) count
  central_write_idle memory a p count ok code some e =
      let pp = idle profile memory a p in
      let kept = kept_memory pp in
      let none : count - count ≡ 0 = omega arith in
      let gives : Gives pp (write_answers count) (over profile kept (sum a count)) = Gives-to pp _ (over profile kept (sum a count)) (write_answers count) (central_out_gives memory a p count count ok code e (omega arith)) (rw (none, address_of-some a count some) refl) in (
        ends_over pp (write_answers count) kept (sum a count) gives,
        record {
          writes = λ i k. central_out_writes memory a p count i ok code e k;
          memory = memory_over pp (write_answers count) kept (sum a count) gives;
        },
      )

-- a running processor without a block is made of its memory and registers
idle-is : (pp : Processor) → pp.state ≡ Running → pp.block ≡ None → idle pp.profile pp.memory pp.a pp.p ≡ pp
idle-is pp running free = ap (λ x. record pp { state = x; block = None }) (sym running) ∙ ap (λ x. record pp { block = x }) (sym free)

pub complete_input : (pp : Processor) → IsProcessor pp → CompleteInput pp
complete_input pp ok words begins named some e h =
    subst (λ t. EndsBlock t (input_answers words) 0 × TakesWords t (input_answers words) (length words) words) (idle-is pp begins.running begins.free)
    (complete_input_idle pp.profile pp.memory pp.a pp.p words (record { memory = ok.memory; a = ok.a; p = ok.p }) begins.code named e h)

pub short_input : (pp : Processor) → IsProcessor pp → ShortInput pp
short_input pp ok words full begins named h k =
    subst (λ t. EndsBlock t (input_answers words ++ inactive full ∷ []) (t.a - length words) × TakesWords t (input_answers words ++ inactive full ∷ []) (length words) (words ++ 0 ∷ [])) (idle-is pp begins.running begins.free)
    (short_input_idle pp.profile pp.memory pp.a pp.p words full (record { memory = ok.memory; a = ok.a; p = ok.p }) begins.code named h k)

pub complete_output : (pp : Processor) → IsProcessor pp → CompleteOutput pp
complete_output pp ok begins named some =
    subst (λ t. EndsBlock t (output_answers t.a) 0 × PutsWords t (output_answers t.a) t.a) (idle-is pp begins.running begins.free)
    (complete_output_idle pp.profile pp.memory pp.a pp.p (record { memory = ok.memory; a = ok.a; p = ok.p }) begins.code named)

pub short_output : (pp : Processor) → IsProcessor pp → ShortOutput pp
short_output pp ok count full begins named h =
    subst (λ t. EndsBlock t (output_answers count ++ inactive full ∷ []) (t.a - count) × PutsWords t (output_answers count ++ inactive full ∷ []) count) (idle-is pp begins.running begins.free)
    (short_output_idle pp.profile pp.memory pp.a pp.p count full (record { memory = ok.memory; a = ok.a; p = ok.p }) begins.code named h)

pub central_read : (pp : Processor) → IsProcessor pp → CentralRead pp
central_read pp ok centrals begins some few e =
    subst (λ t. EndsBlock t (read_answers centrals) (sum t.a (length centrals)) × ReadsCentrals t (read_answers centrals) centrals) (idle-is pp begins.running begins.free)
    (central_read_idle pp.profile pp.memory pp.a pp.p centrals (record { memory = ok.memory; a = ok.a; p = ok.p }) begins.code some few e)

pub central_write : (pp : Processor) → IsProcessor pp → CentralWrite pp
central_write pp ok count begins some e =
    subst (λ t. EndsBlock t (write_answers count) (sum t.a count) × WritesCentrals t (write_answers count) count) (idle-is pp begins.running begins.free)
    (central_write_idle pp.profile pp.memory pp.a pp.p count (record { memory = ok.memory; a = ok.a; p = ok.p }) begins.code some e)
