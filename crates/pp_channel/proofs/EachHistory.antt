-- What holds of each of a list of histories, by place and by channel.
use Rattle.std.proofs.Common.{ℕ, zero, suc, List, [], ◌∷◌, arith}
use Rattle.std.specs.Prelude.{All, slice_index_or}
use Rattle.pp_numbers.specs.ChannelNo.{channel_index}
use Rattle.pp_channel.specs.History.{IsLawful, HasTwelveBitWords, history_on}
use Rattle.pp_channel.specs.declared.event.Event.{Event}
use Rattle.pp_channel.proofs.HistoryLemmas.{lawful_empty}

-- what holds of each history, also past the last channel
history_has : (P : List Event → Type 0) (histories : List (List Event)) (i : ℕ) → P [] → All P histories → P (slice_index_or histories i [])
history_has P [] i none all = none
history_has P (h ∷ hs) zero none all = all 0 [] (omega arith)
history_has P (h ∷ hs) (suc i) none all = history_has P hs i none (λ k d l. all (suc k) d (omega arith))

pub lawful_at : (histories : List (List Event)) (place : ℕ) → All IsLawful histories → IsLawful (slice_index_or histories place [])
lawful_at histories place all = history_has IsLawful histories place lawful_empty all

pub bits_at : (histories : List (List Event)) (place : ℕ) → All HasTwelveBitWords histories → HasTwelveBitWords (slice_index_or histories place [])
bits_at histories place all = history_has HasTwelveBitWords histories place (λ k d l. absurd (omega arith)) all

pub lawful_on : (histories : List (List Event)) (c : ℕ) → All IsLawful histories → IsLawful (history_on c histories)
lawful_on histories c all = lawful_at histories (channel_index c) all

pub bits_on : (histories : List (List Event)) (c : ℕ) → All HasTwelveBitWords histories → HasTwelveBitWords (history_on c histories)
bits_on histories c all = bits_at histories (channel_index c) all
