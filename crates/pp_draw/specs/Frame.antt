-- The frame of the picture: places of turns and lanes, tags, and head, style sheet, legend, scale.
use Rattle.std.specs.Prelude.{ℕ, ◌+◌, ◌-◌, ◌*◌, ◌%◌, ◌==◌, Bool, List, [], ◌++◌, codes, max, min, nat_le, if◌then◌else◌}
use Rattle.pp_numbers.specs.declared.window.Window.{Window}
use Rattle.pp_text.specs.PrintedText.{each_below}
use Rattle.pp_word.specs.Numeral.{short_decimal}

-- whether at most 100 turns are drawn; each is then wider
abbrev pub are_few : Window → Bool
are_few w = nat_le (w.to - w.from) 100

-- the place of a turn; one outside the window has that of the nearest end. A turn is 10 units wide,
-- or 4 where more than 100 are drawn: ten turns then still have room for a label
abbrev pub place : Window → ℕ → ℕ
place w turn = (if are_few w then 10 else 4) * (min (max turn w.from) w.to - w.from)

-- how wide all turns are
abbrev pub band_width : Window → ℕ
band_width w = place w w.to

-- a lane is this high, and those with this many lanes above them begin here
abbrev pub lane_top : ℕ → ℕ
lane_top row = 36 + 36 * row

-- the tag of a rectangle of a class, at a place and of a size, without its end
unfoldable pub rectangle_tag : List ℕ → ℕ → ℕ → ℕ → ℕ → List ℕ
rectangle_tag class x y width height = codes "<rect class='" ++ class
    ++ codes "' x='" ++ short_decimal x ++ codes "' y='" ++ short_decimal y ++ codes "' width='"
    ++ short_decimal width ++ codes "' height='" ++ short_decimal height ++ codes "'"

-- the tag of a text of a class, at a place
unfoldable pub text_tag : List ℕ → ℕ → ℕ → List ℕ
text_tag class x y = codes "<text class='" ++ class ++ codes "' x='" ++ short_decimal x
    ++ codes "' y='" ++ short_decimal y ++ codes "'>"

-- and with these words
abbrev pub text_element : List ℕ → ℕ → ℕ → List ℕ → List ℕ
text_element class x y said = text_tag class x y ++ said ++ codes "</text>\n"

-- the head of a picture with this many lanes: its size, with room for the legend, and what it shows
unfoldable pub head_text : Window → ℕ → List ℕ
head_text w rows =
    let width = max 640 (band_width w + 220) in
    let height = lane_top rows + 28 in
    codes "<svg xmlns='http://www.w3.org/2000/svg' width='" ++ short_decimal width
    ++ codes "' height='" ++ short_decimal height
    ++ codes "' viewBox='0 0 " ++ short_decimal width ++ codes " " ++ short_decimal height
    ++ codes "'>\n<title>Channels and processors, turns " ++ short_decimal w.from
    ++ codes " to " ++ short_decimal w.to ++ codes "</title>\n"

-- colours, light and dark, the classes that have them, and the ground
unfoldable pub style_text : List ℕ
style_text = codes "<style>\n:root{--ink:#1b1f24;--soft:#5c6570;--line:#d5d9de;--ground:#fff;"
    ++ codes "--full:#2f6fb3;--empty:#cfe1f4;--lost:#c0392b;--code:#7d4fa8;--run:#9bb8a0;"
    ++ codes "--block:#4f8159;--held:#e3a63b}\n"
    ++ codes "@media(prefers-color-scheme:dark){:root{--ink:#e6e9ed;--soft:#9aa3ad;--line:#3a414a;"
    ++ codes "--ground:#15181c;--full:#5b9bdc;--empty:#22384f;--lost:#e06757;--code:#b48ad6;"
    ++ codes "--run:#4f7257;--block:#7fb38a;--held:#c98d2a}}\n"
    ++ codes "text{font:11px ui-monospace,Menlo,Consolas,monospace;fill:var(--ink)}\n"
    ++ codes "rect.z{fill:var(--ground)}rect.g{fill:var(--line)}rect.u{fill:var(--soft)}"
    ++ codes "rect.i,rect.s{fill:transparent}rect.a{fill:var(--empty)}rect.f{fill:var(--full)}"
    ++ codes "rect.l,rect.x{fill:var(--lost)}rect.c{fill:var(--code)}rect.r{fill:var(--run)}"
    ++ codes "rect.b{fill:var(--block)}rect.h{fill:var(--held)}\n"
    ++ codes "text.e,text.t{fill:var(--soft)}text.t{text-anchor:middle}text.l{fill:var(--lost);"
    ++ codes "text-decoration:line-through}\n</style>\n"
    ++ codes "<rect class='z' width='100%' height='100%'/>\n"

-- what the colours mean
unfoldable pub legend_text : List ℕ
legend_text = codes "<g transform='translate(8,8)'>\n<rect class='a' width='12' height='12'/>"
    ++ codes "<text class='e' x='16' y='10'>active</text>\n"
    ++ codes "<rect class='f' x='72' width='12' height='12'/><text class='e' x='88' y='10'>"
    ++ codes "full</text>\n<rect class='l' x='131' width='12' height='12'/>"
    ++ codes "<text class='e' x='147' y='10'>lost</text>\n"
    ++ codes "<rect class='c' x='190' width='12' height='12'/><text class='e' x='206' y='10'>"
    ++ codes "function code</text>\n"
    ++ codes "<rect class='r' x='308' width='12' height='12'/><text class='e' x='324' y='10'>"
    ++ codes "running</text>\n<rect class='b' x='387' width='12' height='12'/>"
    ++ codes "<text class='e' x='403' y='10'>in a block</text>\n"
    ++ codes "<rect class='h' x='485' width='12' height='12'/><text class='e' x='501' y='10'>"
    ++ codes "held</text>\n<rect class='x' x='544' width='12' height='12'/>"
    ++ codes "<text class='e' x='560' y='10'>fault</text>\n" ++ codes "</g>\n"

-- at each tenth turn, or each twentieth where more than 100 are drawn: a line and its number
abbrev pub tick_text : Window → ℕ → ℕ → List ℕ
tick_text w rows turn = if turn % (if are_few w then 10 else 20) == 0
    then rectangle_tag (codes "g") (place w turn + 80) 32 1 (36 * rows + 8) ++ codes "/>\n"
    ++ text_element (codes "t") (place w turn + 80) (lane_top rows + 18) (short_decimal turn)
    else []

-- the whole scale, the end of the window included
abbrev pub ticks_text : Window → ℕ → List ℕ
ticks_text w rows = each_below (w.to + 1 - w.from) (λ i. tick_text w rows (w.from + i))

-- what the scale counts, and the end
abbrev pub foot_text : ℕ → List ℕ
foot_text rows = text_tag (codes "e") 8 (lane_top rows + 18) ++ codes "turn</text>\n</svg>\n"
