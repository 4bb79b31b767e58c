-- The drawing of a run: a lane for each channel used and each processor shown, in a frame.
use Rattle.std.specs.Prelude.{ℕ, zero, suc, ◌+◌, ◌==◌, Bool, false, not, List, [], ◌++◌, Option, None, codes, length, slice_index_or, if◌then◌else◌}
use Rattle.std.specs.Int.{from_bool}
use Rattle.pp_numbers.specs.ChannelNo.{channel_count, channel_index, channel_number}
use Rattle.pp_channel.specs.History.{active, waiting}
use Rattle.pp_machine.specs.MachineState.{MachineState, history_of, processor_of}
use Rattle.pp_numbers.specs.PpNo.{processor_count, processor_index, processor_number}
use Rattle.pp_machine.specs.Run.{run}
use Rattle.pp_deck.specs.DeckMeaning.{LoadedDeck}
use Rattle.pp_deck.specs.InUse.{in_use}
use Rattle.pp_channel.specs.ChannelText.{channel_text}
use Rattle.pp_text.specs.PrintedText.{each_below, state_text}
use Rattle.pp_word.specs.Numeral.{octal}
use Rattle.pp_numbers.specs.declared.window.Window.{Window}
use Rattle.pp_draw.specs.Condition.{channel_phases, own_earlier, phases_from, processor_phases}
use Rattle.pp_draw.specs.Frame.{band_width, foot_text, head_text, legend_text, style_text, text_tag, ticks_text}
use Rattle.pp_draw.specs.Lane.{drawn_from, lane_head}
use Rattle.pp_draw.specs.SeenStep.{earlier_steps, seen_in_window}
use Rattle.pp_draw.specs.declared.{condition.Phase.Phase, seen_step.SeenStep.SeenStep}

-- how many of 0, 1, .. and count - 1 pass a test
unfoldable pub count_below : ℕ → (ℕ → Bool) → ℕ
count_below zero test = 0
count_below (suc k) test = count_below k test + from_bool (test k)

-- the lane with this name and this many lanes above it: its phases, and how things stand at the end
unfoldable pub lane_text : Window → ℕ → List ℕ → List Phase → List ℕ → List ℕ
lane_text w row name phases standing =
    lane_head w row name ++ drawn_from w name 0 (phases_from None phases)
    ++ text_tag (codes "e") (band_width w + 8) 26 ++ standing ++ codes "</text>\n</g>\n"

-- whether something has happened on channel c
abbrev pub is_used : MachineState → ℕ → Bool
is_used m c = not (length (history_of c m) == 0)

-- how many of the channels at the first `count` places are used
abbrev pub used_among : ℕ → MachineState → ℕ
used_among count m = count_below count (λ place. is_used m (channel_number place))

-- the lane of channel c, if it is used: below those of the channels before it
unfoldable pub channel_lane : Window → MachineState → ℕ → List ℕ
channel_lane w m c = if is_used m c
    then lane_text w (used_among (channel_index c) m) (codes "CH" ++ octal 2 c) (channel_phases c m)
    (channel_text (active (history_of c m)) (waiting (history_of c m))) else []

-- whether the processor at a place is shown, by a flag for each place
abbrev pub is_flagged : List Bool → ℕ → Bool
is_flagged shown place = slice_index_or shown place false

-- how many lanes are above the processor's at a place: of channels, and of processors before it
abbrev pub lanes_above : ℕ → List Bool → MachineState → ℕ
lanes_above place shown m = used_among channel_count m + count_below place (is_flagged shown)

-- the lane of processor n, if it is shown, by its last step before the others and by those
unfoldable pub processor_lane : Window → List Bool → MachineState → List (Option SeenStep)
    → List SeenStep → ℕ → List ℕ
processor_lane w shown m earlier steps n = if is_flagged shown (processor_index n)
    then lane_text w (lanes_above (processor_index n) shown m) (codes "PP" ++ octal 2 n)
    (processor_phases n (own_earlier n earlier ++ steps))
    (state_text (processor_of n m).state) else []

-- THE TEXT of the drawing of a machine after a run to the window's end, by the steps in the window
unfoldable pub drawing : Window → List Bool → MachineState → List (Option SeenStep)
    → List SeenStep → List ℕ
drawing w shown m earlier steps =
    let rows = lanes_above processor_count shown m in
    head_text w rows ++ style_text ++ legend_text ++ ticks_text w rows
    ++ each_below channel_count (λ place. channel_lane w m (channel_number place))
    ++ each_below processor_count (λ place.
    processor_lane w shown m earlier steps (processor_number place))
    ++ foot_text rows

-- the drawing of a loaded deck, by the steps of its run
abbrev pub drawing_of_run : Window → List ℕ → LoadedDeck → List ℕ
drawing_of_run w steps deck = drawing w (in_use deck) (run steps deck.machine)
    (earlier_steps w steps deck.machine) (seen_in_window w steps deck.machine)
