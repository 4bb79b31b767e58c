use Rattle.std.proofs.Common.{◌≡◌, ◌<◌, ℕ, None, length, slice_index_or}
use Rattle.std.specs.Prelude.{IsTrue}
use Rattle.pp_numbers.specs.ChannelNo.{channel_count, names_channel}
use Rattle.pp_channel.specs.History.{history_on}
use Rattle.pp_report.specs.Authors.{authors_on}
use Rattle.pp_report.proofs.AuthorLemmas.{author_from}
use Rattle.pp_report.proofs.authors.authors.Given as goal

abbrev pub invariant-loop-place : goal.invariant-loop-place
invariant-loop-place g l = record {
  each : length l.authors.items ≡ channel_count;
  each_event : (c : ℕ) → length (authors_on c l.authors.items) ≡ length (history_on c l.channels);
  found : (c number : ℕ) → IsTrue (names_channel c) → number < length (history_on c l.channels)
      → slice_index_or (authors_on c l.authors.items) number None ≡ author_from c number l.place l.workers;
}
