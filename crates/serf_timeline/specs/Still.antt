-- What a page shows without its script.
use Rattle.std.specs.Prelude.{ℕ, ◌==◌, ◌++◌, Bool, if◌then◌else◌, List, [], length, codes, decimal}
use Rattle.std.specs.List.{flat_map}
use Rattle.std.specs.Str.{bytes_eq}
use Rattle.serf_timeline.specs.declared.markup.TheConstants.{HEADS_END, IMAGE, IMAGE_END, LOGS, MORE, MORE_END, RUN, TABLE, TABLE_END}
use Rattle.serf_timeline.specs.declared.still.Column.{Column}
use Rattle.serf_timeline.specs.declared.still.LogLine.{LogLine}
use Rattle.serf_timeline.specs.declared.still.Logs.{Logs}
use Rattle.serf_timeline.specs.declared.still.Run.{Run}
use Rattle.serf_timeline.specs.Escape.{address, html}

-- a text of any number of lines
unfoldable pub pre_text : List ℕ → List ℕ
pre_text text = codes "<pre>" ++ html text ++ codes "</pre>\n"

-- The table of logs: a row for each line, and a column for each node

unfoldable pub head_cell : Column → List ℕ
head_cell column = codes "<th>" ++ html column.heading.now ++ codes "</th>"

unfoldable pub heads_text : List Column → List ℕ
heads_text columns = TABLE.now ++ flat_map head_cell columns ++ HEADS_END.now

-- the start of the cell of the node that was handed something, which an earlier line may have handed to it too
abbrev pub cell_start : Bool → List ℕ
cell_start is_again = if is_again then codes "<td class=\"bad\">again: " else codes "<td>"

-- the cell of the node that was handed something
unfoldable pub label_text : LogLine → List ℕ
label_text line = cell_start line.is_again ++ html line.label.now ++ codes "</td>"

-- the cell of a column in the row of a line
abbrev pub cell_text : LogLine → Column → List ℕ
cell_text line column = if bytes_eq line.node.now column.node.now then label_text line else codes "<td></td>"

unfoldable pub line_text : List Column → LogLine → List ℕ
line_text columns line = codes "<tr><td>" ++ html line.place.now ++ codes "</td>" ++ flat_map (cell_text line) columns ++ codes "</tr>\n"

unfoldable pub table_text : List Column → List LogLine → List ℕ
table_text columns lines = heads_text columns ++ flat_map (line_text columns) lines ++ TABLE_END.now

-- the number of lines that are left out, if there are any
unfoldable pub left_out_text : ℕ → List ℕ
left_out_text more = MORE.now ++ decimal more ++ MORE_END.now

abbrev pub more_text : ℕ → List ℕ
more_text more = if more == 0 then [] else left_out_text more

-- The parts

unfoldable pub logs_text : Logs → List ℕ
logs_text logs = LOGS.now ++ table_text logs.columns.now logs.lines.now ++ more_text logs.more

-- an image, whose address contains the picture
unfoldable pub image_text : List ℕ → List ℕ
image_text picture = IMAGE.now ++ address picture ++ IMAGE_END.now

-- a picture, if there is one
abbrev pub picture_text : List ℕ → List ℕ
picture_text picture = if length picture == 0 then [] else image_text picture

unfoldable pub run_text : Run → List ℕ
run_text run = RUN.now ++ picture_text run.picture.now ++ pre_text run.text.now
