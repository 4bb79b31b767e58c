use Rattle.std.proofs.Common.{◌≡◌, ◌≤◌, vec_len, vec_capacity}
use Rattle.pp_line.proofs.JoinedLines.{AreAbsorbed}
use Rattle.pp_line.proofs.line.Line.close_with.Given as goal

abbrev pub invariant-loop-value : goal.invariant-loop-value
invariant-loop-value g l = record {
  table : l.words.seat.table_id ≡ l.fn.self.table;
  room : vec_len l.fn.others ≤ vec_capacity l.logs;
  absorbed : AreAbsorbed l.fn.self l.yielded l.words.seat.me.0 l.seen l.logs.items;
}
