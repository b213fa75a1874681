-- The text of an SVG file. A lane is 1,000 units wide and a line 100 units high, so each coordinate is a number
-- followed by two or three fixed digits.
use Rattle.std.specs.Prelude.{ℕ, ◌==◌, ◌+◌, ◌-◌, ◌*◌, ◌/◌, ◌++◌, ◌^◌, ◌||◌, min, nat_lt, Bool, true, false, is_none, if◌then◌else◌, List, [], ◌∷◌, length, map, codes, decimal, position, Option, Some, None}
use Rattle.std.specs.List.{flat_map, fold, list_any, range_with_len}
use Rattle.serf_draw.specs.declared.picture.Arrow.{Arrow}
use Rattle.serf_draw.specs.declared.picture.Arrow.TheVariants.{NoPacket, Unsent, From}
use Rattle.serf_draw.specs.declared.picture.Lane.{Lane}
use Rattle.serf_draw.specs.declared.picture.Picture.{Picture}
use Rattle.serf_draw.specs.declared.picture.Row.{Row}
use Rattle.serf_draw.specs.declared.picture.Sender.{Sender}
use Rattle.serf_draw.specs.declared.picture.Tone.{Tone}
use Rattle.serf_draw.specs.declared.picture.Tone.TheVariants.{Taken, Ignored, Refused}
use Rattle.serf_draw.specs.declared.style.TheConstants.{LEGEND, OPENING, STYLE}
use Rattle.serf_draw.specs.Escape.{escape}
use Rattle.serf_draw.specs.Label.{short}

-- the class of a tone
abbrev pub tone_word : Tone → List ℕ
tone_word Taken = codes "t"
tone_word Ignored = codes "i"
tone_word Refused = codes "r"

-- Parts

-- a number between two texts
unfoldable pub between : List ℕ → ℕ → List ℕ → List ℕ
between before n following = before ++ decimal n ++ following

-- an element that contains an arbitrary text, escaped
unfoldable pub text_element : List ℕ → List ℕ → List ℕ
text_element opening text = opening ++ escape text ++ codes "</text>\n"

-- the class of a tone between two texts
unfoldable pub class_text : List ℕ → Tone → List ℕ → List ℕ
class_text before tone following = before ++ tone_word tone ++ following

-- Lines

-- the line above a row that has `n` rows above it: one line for each of these rows, and one more after each 40 of them
-- for the names
abbrev pub line_above : ℕ → ℕ
line_above n = min (n + n / 40) (2 ^ 64 - 1)

-- the line of this row
abbrev pub line_of : ℕ → ℕ
line_of n = min (line_above n + 1) (2 ^ 64 - 1)

-- Places

-- the index of an agent's lane among these
abbrev pub lane_place : List Lane → ℕ → Option ℕ
lane_place lanes a = position (λ l. l.agent == a) lanes

-- the x coordinate of a lane in thousands, or a `-`, which is to the left of all lanes
abbrev pub thousands : Option ℕ → List ℕ
thousands None = codes "-"
thousands (Some i) = decimal i

abbrev pub agent_thousands : List Lane → Option ℕ → List ℕ
agent_thousands lanes None = codes "-"
agent_thousands lanes (Some a) = thousands (lane_place lanes a)

-- whether something is to the left of all lanes: it belongs to no agent, or to an agent without a lane
abbrev pub is_outside : List Lane → Option ℕ → Bool
is_outside lanes None = true
is_outside lanes (Some a) = is_none (lane_place lanes a)

abbrev pub begins_outside : List Lane → Arrow → Bool
begins_outside lanes NoPacket = false
begins_outside lanes Unsent = true
begins_outside lanes (From sender) = is_outside lanes sender.agent

abbrev pub row_is_outside : List Lane → Row → Bool
row_is_outside lanes row = is_outside lanes row.agent || begins_outside lanes row.arrow

-- whether a row, or the beginning of its arrow, is to the left of all lanes; a cross is in the row of the action that
-- sent the packet
abbrev pub has_outside : List Lane → List Row → Bool
has_outside lanes rows = list_any (row_is_outside lanes) rows

-- The middle of an agent's lane, on the line of the row that has `above` rows above it. An agent without a lane is to
-- the left of all lanes.
unfoldable pub place_text : List Lane → Option ℕ → ℕ → List ℕ
place_text lanes agent above = agent_thousands lanes agent ++ codes "500 " ++ decimal (line_of above) ++ codes "50"

-- this place between two texts
unfoldable pub placed_text : List ℕ → List Lane → Option ℕ → ℕ → List ℕ → List ℕ
placed_text before lanes agent above following = before ++ place_text lanes agent above ++ following

-- the x coordinate at which all labels begin, 260 units to the right of the last lane
abbrev pub label_place : List Lane → List ℕ
label_place lanes = if length lanes == 0 then codes "-240" else between [] (length lanes - 1) (codes "760")

-- Lanes

-- the name of a lane on a line, escaped
unfoldable pub name_text : ℕ → ℕ → Lane → List ℕ
name_text line i lane =
    between (codes "<text class='h' x='") i (codes "500' y='") ++ between [] line (codes "65'>") ++ text_element [] (short lane.name)

-- the names of all lanes on a line
abbrev pub names_text : ℕ → ℕ → List Lane → List ℕ
names_text line i [] = []
names_text line i (lane ∷ lanes) = name_text line i lane ++ names_text line (i + 1) lanes

-- the numbers of the lines with the names, for `rows` rows: the first line, and one between groups of 40 rows
abbrev pub head_lines : ℕ → List ℕ
head_lines rows = map (λ k. line_above (40 * k)) (range_with_len 0 ((rows - 1) / 40 + 1))

-- the name of the area to the left of all lanes, if anything is there
abbrev pub outside_text : Bool → ℕ → List ℕ
outside_text outside line = if outside then between (codes "<text class='h' x='-500' y='") line (codes "65'>outside</text>\n") else []

unfoldable pub head_text : Bool → List Lane → ℕ → List ℕ
head_text outside lanes line = outside_text outside line ++ names_text line 0 lanes

abbrev pub heads_text : Bool → ℕ → List Lane → List ℕ
heads_text outside rows lanes = flat_map (head_text outside lanes) (head_lines rows)

-- the vertical line of a lane
unfoldable pub lane_line : ℕ → ℕ → List ℕ
lane_line last i = between (codes "<path class='l' d='M") i (codes "500 90V") ++ between [] last (codes "99'/>\n")

abbrev pub lanes_text : ℕ → ℕ → List Lane → List ℕ
lanes_text last i [] = []
lanes_text last i (lane ∷ lanes) = lane_line last i ++ lanes_text last (i + 1) lanes

-- a thin line from the place at which the agent acts to the label
unfoldable pub guide_text : List Lane → Row → List ℕ
guide_text lanes row = placed_text (codes "<path class='w' d='M") lanes row.agent row.above (codes "H") ++ label_place lanes ++ codes "'/>\n"

-- Arrows

-- an arrow from the place at which an agent acted to the place at which the agent of the row acts
unfoldable pub arrow_line : List Lane → Row → Option ℕ → ℕ → List ℕ
arrow_line lanes row agent above =
    class_text (codes "<path class='") row.tone (codes "' d='M") ++ place_text lanes agent above ++ codes "L" ++ place_text lanes row.agent row.above ++ codes "'/>\n"

abbrev pub arrow_of_text : List Lane → Row → Arrow → List ℕ
arrow_of_text lanes row NoPacket = []
arrow_of_text lanes row Unsent = arrow_line lanes row None row.above
arrow_of_text lanes row (From sender) = arrow_line lanes row sender.agent sender.above

-- one arrow for each packet that is passed to an agent, from its sender's place
abbrev pub arrow_text : List Lane → Row → List ℕ
arrow_text lanes row = arrow_of_text lanes row row.arrow

-- a small cross to the right of the place from which a packet was sent that no agent received
unfoldable pub cross_text : List Lane → Sender → List ℕ
cross_text lanes sender = placed_text (codes "<path class='x' transform='translate(") lanes sender.agent sender.above (codes ")' d='M14 0H27M27-11L49 11M27 11L49-11'/>\n")

-- Rows

-- the action's number, at the left edge
unfoldable pub number_text : ℕ → ℕ → List ℕ
number_text line n = between (codes "<text class='n' x='-680' y='") line (codes "75'>") ++ between [] n (codes "</text>\n")

-- the group of what is drawn at the place at which the agent acts
unfoldable pub dot_text : List Lane → Row → List ℕ
dot_text lanes row =
    class_text (codes "<g class='") row.tone (codes "'") ++ placed_text (codes " transform='translate(") lanes row.agent row.above (codes ")'>")

-- a dot, with a break of the lane if the agent was opened again
abbrev pub mark_text : Bool → List ℕ
mark_text restarts = if restarts then codes "<path class='g' d='M0-45V45'/><path class='b' d='M-50-45H50M-50 45H50'/><circle r='14'/></g>\n" else codes "<circle r='14'/></g>\n"

-- the label of the row, escaped, to the right of all lanes
unfoldable pub label_text : List Lane → Row → List ℕ
label_text lanes row = class_text (codes "<text class='") row.tone (codes "' x='") ++ label_place lanes
    ++ between (codes "' y='") (line_of row.above) (codes "75'>") ++ text_element [] row.label

unfoldable pub row_text : List Lane → Row → List ℕ
row_text lanes row = number_text (line_of row.above) row.action ++ dot_text lanes row ++ mark_text row.restarts ++ label_text lanes row

-- The whole

-- the larger of two numbers
abbrev pub greater : ℕ → ℕ → ℕ
greater m n = if nat_lt m n then n else m

-- the length of the longest label, in bytes
abbrev pub longest : List Row → ℕ
longest rows = fold (λ n row. greater n (length row.label)) 0 rows

-- the number of columns that the labels need if the longest has `n` bytes, each of which is 45 units wide
abbrev pub label_columns : ℕ → ℕ
label_columns n = if nat_lt 49 n then 3 else if nat_lt 27 n then 2 else 1

-- The number of columns: one for each lane, and those of the labels. There are at least three, so that the legend has
-- room.
abbrev pub columns : List Lane → List Row → ℕ
columns lanes rows = greater 3 (min (length lanes + label_columns (longest rows)) (2 ^ 64 - 1))

-- The visible area, in units and then in picas (16 pixels). A line is one pica high, a lane is ten picas wide, and the
-- area to the left of the lanes is seven picas wide.
unfoldable pub view_text : ℕ → ℕ → List ℕ
view_text columns lines = between [] columns (codes "700 ") ++ between [] lines (codes "99'")

unfoldable pub size_text : ℕ → ℕ → List ℕ
size_text columns lines = between (codes " width='") columns (codes "7pc' height='") ++ between [] lines (codes ".99pc'>\n")

unfoldable pub frame_text : ℕ → ℕ → List ℕ
frame_text columns lines = OPENING.now ++ view_text columns lines ++ size_text columns lines ++ STYLE.now

-- the legend, alone on its line
abbrev pub legend_text : ℕ → List ℕ
legend_text line = between (codes "<g transform='translate(-680 ") line (codes "50)'>") ++ LEGEND.now

-- the background: the lanes, the names, and the lines to the labels
unfoldable pub back_text : List Lane → List Row → List ℕ
back_text lanes rows = lanes_text (line_above (length rows)) 0 lanes ++ heads_text (has_outside lanes rows) (length rows) lanes ++ flat_map (guide_text lanes) rows

-- the foreground: the arrows, the crosses and the rows
unfoldable pub front_text : List Lane → List Row → List Sender → List ℕ
front_text lanes rows lost = flat_map (arrow_text lanes) rows ++ flat_map (cross_text lanes) lost ++ flat_map (row_text lanes) rows

-- the whole picture in its frame, with a legend below
unfoldable pub svg_of : Picture → List ℕ
svg_of p = frame_text (columns p.lanes.items p.rows.items) (line_of (length p.rows.items)) ++ back_text p.lanes.items p.rows.items
    ++ front_text p.lanes.items p.rows.items p.lost.items ++ legend_text (line_of (length p.rows.items)) ++ codes "</svg>\n"
