-- What fills the blanks of the templates in a picture.
use Rattle.std.specs.Prelude.{ℕ, List, decimal}
use Rattle.serf_text.specs.Template as template
use Rattle.serf_draw.specs.declared.filled.PicturePart.{PicturePart}
use Rattle.serf_draw.specs.declared.filled.PicturePart.TheVariants as parts
use Rattle.serf_draw.specs.Escape.{escape}
use Rattle.serf_draw.specs.Label.{short}
use Rattle.serf_draw.specs.Mermaid.{coded, participant}
use Rattle.serf_draw.specs.Svg.{label_place, place_text}

abbrev pub part_text : PicturePart → List ℕ
part_text (parts.Text text) = text.now
part_text (parts.Number n) = decimal n
part_text (parts.Short text) = short text.now
part_text (parts.Escaped text) = escape text.now
part_text (parts.Coded text) = coded text.now
part_text (parts.Place lanes agent above) = place_text lanes.now agent above
part_text (parts.LabelPlace lanes) = label_place lanes.now
part_text (parts.Participant lanes agent) = participant lanes.now agent

-- a template whose blanks are filled by these parts
abbrev pub filled : List ℕ → List PicturePart → List ℕ
filled text parts = template.filled part_text text parts
