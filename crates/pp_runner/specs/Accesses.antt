-- What workers accessed, channels and words of central memory alike, in one order.
use Rattle.std.specs.Prelude.{◌≡◌, ℕ, true, List, [], ◌∷◌, ◌++◌, Some, map, option_to_list}
use Rattle.pp_numbers.specs.Subsequence.{IsSubsequence}
use Rattle.pp_channel.specs.Answer.{seen_answered}
use Rattle.pp_line.specs.Order.{entries_among}
use Rattle.pp_runner.specs.Types.{Access, Answer, Need, Worker}
use Rattle.pp_processor.specs.NeedAndEffect.{need, processor_after}
use Rattle.pp_processor.specs.Processor.{Processor}

-- What an answer to a need accessed, if its event, look or write has this number.
abbrev pub accesses_by : ℕ → Need → Answer → List Access
accesses_by number (Need.Channel channel operation) (Answer.Channel reply) =
    map (λ what. Access.OnChannel (record { channel = channel; number = number; what = what }))
    (option_to_list (seen_answered operation reply))
accesses_by number (Need.Read address) (Answer.Read (Some word)) = Access.Read address word ∷ []
accesses_by number (Need.Write address word) (Answer.Wrote true) =
    Access.Write address word number ∷ []
accesses_by number needed answer = []

-- Accesses are those of answers that a processor was given, in their order, each with some number.
abbrev pub AreAccessesOf : Processor → List Answer → List Access → Type 0
AreAccessesOf pp [] accesses = accesses ≡ []
AreAccessesOf pp (answer ∷ answers) accesses = (number : ℕ) × (rest : List Access)
    × (accesses ≡ accesses_by number (need pp) answer ++ rest)
    × AreAccessesOf (processor_after pp answer) answers rest

-- A worker that began with this processor made these accesses by its answers. They stand in the
-- order of all accesses, in their own order, with others between. Its log has the entries of its
-- accesses to channels, with others between, and stands in that order too.
pub record HasAccessed {A : Type 0} (load : Processor) (order : List Access) (w : Worker A)
    (accesses : List Access) : Type 0 where
  pub given : AreAccessesOf load w.answers.items accesses
  pub in_order : IsSubsequence accesses order
  pub drawn : IsSubsequence w.log.items (entries_among order)
  pub logged : IsSubsequence (entries_among accesses) w.log.items

-- for each of these processors a worker, with its accesses, in their order
abbrev pub HaveAccessed : {A : Type 0} → List Processor → List Access → List (Worker A)
    → List (List Access) → Type 0
HaveAccessed [] order [] [] = Unit {0}
HaveAccessed (load ∷ loads) order (w ∷ ws) (accesses ∷ more) =
    HasAccessed load order w accesses × HaveAccessed loads order ws more
HaveAccessed loads order ws accesses = ⊥
