-- A lane: what is drawn of its phases, part by part, each label only if there is room for it.
use Rattle.std.specs.Prelude.{ℕ, ◌+◌, ◌-◌, Bool, false, ◌&&◌, nat_le, nat_lt, List, [], ◌∷◌, ◌++◌, Option, None, Some, codes, if◌then◌else◌}
use Rattle.std.specs.List.{slice_get}
use Rattle.std.specs.Option.{option_map, unwrap_or}
use Rattle.pp_numbers.specs.declared.window.Window.{Window}
use Rattle.pp_machine.specs.MachineStep.{counted}
use Rattle.pp_word.specs.Numeral.{short_decimal}
use Rattle.pp_draw.specs.Condition.{face_of, is_sent, loses_word, phases_from}
use Rattle.pp_draw.specs.Frame.{band_width, lane_top, place, rectangle_tag, text_element}
use Rattle.pp_draw.specs.declared.{condition.Look.Look, condition.Phase.Phase, lane.Lane.Lane, lane.Part.Part}

-- a phase is drawn until the next begins, or the window ends; but a function code in its turn alone
abbrev pub until : Window → Phase → Option Phase → ℕ
until w phase None = if is_sent phase.look then counted phase.since else w.to
until w phase (Some next) = if is_sent phase.look then counted phase.since else next.since

-- whether the word that waits is lost where the next begins
abbrev pub is_lost : Look → Option Phase → Bool
is_lost look next = unwrap_or (option_map (λ phase. loses_word look phase.look) next) false

-- what is drawn of a phase, by the next
abbrev pub part_of : Window → Phase → Option Phase → Part
part_of w phase next = record {
  start = place w phase.since;
  end = place w (until w phase next);
  since = phase.since;
  until = until w phase next;
  look = phase.look;
  is_lost = is_lost phase.look next;
}

-- whether some of it falls into the window
abbrev pub is_visible : Part → Bool
is_visible part = nat_lt part.start part.end

-- a lost word has a class of its own
abbrev pub part_class : Part → List ℕ
part_class part = if part.is_lost then codes "l" else (face_of part.look).class

-- the band of a part of the lane with this name, and its title: `CH05 full 0007 lost from 20 to 30`
unfoldable pub band_element : List ℕ → Part → List ℕ
band_element name part = rectangle_tag (part_class part) part.start 14 (part.end - part.start) 16
    ++ codes "><title>" ++ name ++ codes " " ++ (face_of part.look).words
    ++ unwrap_or (face_of part.look).label [] ++ (if part.is_lost then codes " lost" else [])
    ++ codes " from " ++ short_decimal part.since
    ++ codes " to " ++ short_decimal part.until ++ codes "</title></rect>\n"

-- the label above it, if it has one, and there is room from this place on
abbrev pub label_from : ℕ → Part → Option (List ℕ)
label_from free part =
    if is_visible part && nat_le free part.start then (face_of part.look).label else None

-- what is written of a part, and the place from which there is room after it
abbrev pub part_elements : List ℕ → ℕ → Part → List ℕ
part_elements name free part =
    (if is_visible part then band_element name part else []) ++ unwrap_or
    (option_map (text_element (part_class part) part.start 10) (label_from free part)) []

abbrev pub free_after : ℕ → Part → ℕ
free_after free part = unwrap_or (option_map (λ label. part.start + 30) (label_from free part)) free

-- how the lane with this many lanes above it begins: its upper edge, its name, and a line
unfoldable pub lane_head : Window → ℕ → List ℕ → List ℕ
lane_head w row name = codes "<g transform='translate(80," ++ short_decimal (lane_top row)
    ++ codes ")'>\n<text x='-72' y='26'>" ++ name ++ codes "</text>\n<rect class='u' y='30' width='"
    ++ short_decimal (band_width w) ++ codes "' height='1'/>\n"

-- what is written of phases, where there is room for a label from this place on
abbrev pub drawn_from : Window → List ℕ → ℕ → List Phase → List ℕ
drawn_from w name free [] = []
drawn_from w name free (phase ∷ more) =
    let part = part_of w phase (slice_get more 0) in
    part_elements name free part ++ drawn_from w name (free_after free part) more

-- what is still written of a lane, as these phases come
abbrev pub still_drawn : Lane → List Phase → List ℕ
still_drawn lane phases =
    drawn_from lane.window lane.name lane.free (phases_from lane.current phases)
