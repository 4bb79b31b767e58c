use Rattle.pp_draw.proofs.BandLemmas.{band_stands, channel_stands, code_in_turn, last_to_end, lower_channel, lower_processor, next_adjoins, processor_stands, visible_where}
use Rattle.pp_draw.proofs.ConditionLemmas.{last_is_drawn, next_is_drawn, same_continues, same_on}
use Rattle.pp_draw.proofs.LawLemmas.{each_is_drawn, lost_where, phase_for_event, turn_for_event}
use Rattle.pp_draw.proofs.TurnLemmas.{last_at_turn, last_in_window, shown_where}
use Rattle.pp_draw.proofs.laws.drawing_law.Goals as goal

pub returns : goal.returns
returns c = record {
  history = phase_for_event;
  turns = turn_for_event;
  each_event = each_is_drawn;
  one_more = next_is_drawn;
  alike = same_on;
  joined = same_continues;
  last = last_is_drawn;
  shown = shown_where;
  at_turn = last_at_turn;
  in_window = last_in_window;
  adjoin = next_adjoins;
  to_end = last_to_end;
  code = code_in_turn;
  visible = visible_where;
  band = band_stands;
  channels = channel_stands;
  processors = processor_stands;
  channel_rows = lower_channel;
  processor_rows = lower_processor;
  lost = lost_where;
}
