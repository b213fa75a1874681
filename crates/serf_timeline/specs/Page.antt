-- The text of a page. The constants are the parts of the files in `examples/timeline` between the page's blanks.
use Rattle.std.specs.Prelude.{ℕ, ◌++◌, Bool, if◌then◌else◌, List, [], codes, Option, Some, None}
use Rattle.serf_timeline.specs.declared.frame.TheConstants.{DATA, ENDING, HEADING, OPENING, SCRIPT, STILL, TONE, VERDICT}
use Rattle.serf_timeline.specs.declared.markup.TheConstants.{ENTRY, ENTRY_CLASS}
use Rattle.serf_timeline.specs.declared.page.Page.{Page}
use Rattle.serf_timeline.specs.declared.script_1.TheConstants.{SCRIPT_1}
use Rattle.serf_timeline.specs.declared.script_2.TheConstants.{SCRIPT_2}
use Rattle.serf_timeline.specs.declared.still.Logs.{Logs}
use Rattle.serf_timeline.specs.declared.still.Run.{Run}
use Rattle.serf_timeline.specs.Escape.{data_text, html}
use Rattle.serf_timeline.specs.Still.{logs_text, pre_text, run_text}

-- up to the heading: the title is also the heading
unfoldable pub head_text : List ℕ → List ℕ
head_text title = OPENING.now ++ html title ++ HEADING.now ++ html title

abbrev pub tone_word : Bool → List ℕ
tone_word is_broken = if is_broken then codes "bad" else codes "good"

-- the verdict, which is one entry of a list
unfoldable pub tone_text : Bool → List ℕ
tone_text is_broken = TONE.now ++ tone_word is_broken ++ VERDICT.now

unfoldable pub entry_start : Bool → List ℕ
entry_start is_broken = ENTRY.now ++ tone_word is_broken ++ ENTRY_CLASS.now

unfoldable pub verdict_text : Bool → List ℕ → List ℕ
verdict_text is_broken verdict = tone_text is_broken ++ entry_start is_broken ++ pre_text verdict ++ codes "</li>\n"

-- what the page shows without the script
abbrev pub logs_part : Option Logs → List ℕ
logs_part None = []
logs_part (Some logs) = logs_text logs

abbrev pub run_part : Option Run → List ℕ
run_part None = []
run_part (Some run) = run_text run

unfoldable pub still_text : Page → List ℕ
still_text page = STILL.now ++ logs_part page.logs ++ run_part page.run

-- an element with objects that the script shows
unfoldable pub element_text : List ℕ → List ℕ → List ℕ
element_text name objects = codes "<script type=\"application/json\" id=\"" ++ name ++ codes "\">\n" ++ data_text objects ++ codes "</script>\n"

abbrev pub logs_element : Option Logs → List ℕ
logs_element None = []
logs_element (Some logs) = element_text (codes "log-data") logs.objects.now

abbrev pub run_element : Option Run → List ℕ
run_element None = []
run_element (Some run) = element_text (codes "run-data") run.objects.now

unfoldable pub elements_text : Page → List ℕ
elements_text page = DATA.now ++ logs_element page.logs ++ run_element page.run

-- the script and the end
unfoldable pub script_text : List ℕ
script_text = SCRIPT_1.now ++ SCRIPT_2.now

unfoldable pub ending_text : List ℕ
ending_text = SCRIPT.now ++ script_text ++ ENDING.now

abbrev pub page_text : Page → List ℕ
page_text page = head_text page.title.now ++ verdict_text page.is_broken page.verdict.now ++ still_text page ++ elements_text page ++ ending_text
