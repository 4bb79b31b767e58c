-- What is counted, by what is kept of all channels.
use Rattle.std.proofs.Common.{◌≡◌, ℕ, ◌+◌, ◌<◌, ◌≤◌, Bool, List, [], ◌∷◌, take, get_or, map, refl, sym, ap, ◌∙◌, arith}
use Rattle.std.specs.Prelude.{◌&&◌, count_by, nat_lt, if◌then◌else◌}
use Rattle.std.specs.List.{range_with_len}
use Rattle.std.proofs.lemmas.List.{length-take}
use Rattle.std.proofs.lemmas.List.FromFn.{fill_by_all}
use Rattle.std.proofs.lemmas.List.Sums.{count_by-le-length, sum_by-cons}
use Rattle.pp_numbers.specs.ChannelNo.{channel_places, all_channels, channel_count, channel_number}
use Rattle.pp_numbers.specs.Tables.{tabulate}
use Rattle.pp_check.specs.Judge.{KeepsEvents, new_tally, tally}
use Rattle.pp_check.specs.LawfulTrace.{is_opened}
use Rattle.pp_check.specs.Verdict.{is_used, opened_count, used_count}
use Rattle.pp_check.specs.declared.{channel_tally.ChannelTally.ChannelTally, trace_line.TraceLine.TraceLine}

-- whether events were told of a channel, and whether it was opened besides
abbrev pub is_told : ChannelTally → Bool
is_told s = nat_lt 0 s.events

abbrev pub was_open : ChannelTally → Bool
was_open s = nat_lt 0 s.events && s.is_opened

by_place : (opened : List Bool) (lines : List TraceLine) (tallies : List ChannelTally) (events sessions : ℕ) → KeepsEvents opened lines tallies events sessions → (k : ℕ) → k < channel_count → get_or tallies k new_tally ≡ tally opened lines (channel_number k)
by_place opened lines tallies events sessions kept k below = grind (arith, channel_places.place_of_number, channel_places.number_named)

-- what is kept of the channels, as a list
pub all_tallies : (opened : List Bool) (lines : List TraceLine) (tallies : List ChannelTally) (events sessions : ℕ) → KeepsEvents opened lines tallies events sessions → tallies ≡ map (λ k. tally opened lines (channel_number k)) (range_with_len 0 channel_count)
all_tallies opened lines tallies events sessions kept =
    fill_by_all (λ k. tally opened lines (channel_number k)) tallies channel_count new_tally kept.each_channel (by_place opened lines tallies events sessions kept)

count_map : {X Y : Type 0} (p : Y → Bool) (f : X → Y) (xs : List X) → count_by p (map f xs) ≡ count_by (λ x. p (f x)) xs
count_map p f [] = refl
count_map p f (x ∷ xs) =
    sum_by-cons (λ y. if p y then 1 else 0) (f x) (map f xs)
    ∙ ap (λ (n : ℕ). (if p (f x) then 1 else 0) + n) (count_map p f xs)
    ∙ sym (sum_by-cons (λ y. if p (f y) then 1 else 0) x xs)

count_channels : (p : ℕ → Bool) → count_by p all_channels ≡ count_by (λ k. p (channel_number k)) (range_with_len 0 channel_count)
unfolding all_channels tabulate
count_channels p = count_map p channel_number (range_with_len 0 channel_count)

pub told_count : (opened : List Bool) (lines : List TraceLine) (tallies : List ChannelTally) (events sessions : ℕ) → KeepsEvents opened lines tallies events sessions → count_by is_told tallies ≡ used_count lines
unfolding tally
told_count opened lines tallies events sessions kept =
    ap (count_by is_told) (all_tallies opened lines tallies events sessions kept)
    ∙ count_map is_told (λ k. tally opened lines (channel_number k)) (range_with_len 0 channel_count)
    ∙ sym (count_channels (is_used lines))

pub open_count : (opened : List Bool) (lines : List TraceLine) (tallies : List ChannelTally) (events sessions : ℕ) → KeepsEvents opened lines tallies events sessions → count_by was_open tallies ≡ opened_count opened lines
unfolding tally
open_count opened lines tallies events sessions kept =
    ap (count_by was_open) (all_tallies opened lines tallies events sessions kept)
    ∙ count_map was_open (λ k. tally opened lines (channel_number k)) (range_with_len 0 channel_count)
    ∙ sym (count_channels (λ c. is_used lines c && is_opened opened c))

-- counts of a first part stay below its length
pub few_counted : (p : ChannelTally → Bool) (tallies : List ChannelTally) (k : ℕ) → count_by p (take k tallies) ≤ k
few_counted p tallies k = omega (arith, count_by-le-length p (take k tallies), length-take k tallies)
