-- Objects with the verdicts on the promises.
use Rattle.std.specs.Prelude.{ℕ, ◌++◌, ◌==◌, ◌&&◌, nat_lt, Bool, if◌then◌else◌, List, [], ◌∷◌, length, map, codes, Option, Some, None}
use Rattle.std.specs.List.{slice_index_or}
use Rattle.serf_json.specs.Object.{object_text}
use Rattle.serf_judge.specs.declared.log.Log.{Log}
use Rattle.serf_judge.specs.Identity.{Identity, event_seen}
use Rattle.serf_judge_json.specs.declared.kind.Kind.{Kind}
use Rattle.serf_judge_json.specs.declared.kind.Kind.TheVariants as kinds
use Rattle.serf_judge_json.specs.declared.places.LogPlaces.{LogPlaces}
use Rattle.serf_judge_json.specs.Entries.{about_text}
use Rattle.serf_judge_json.specs.Kinds.{kind_word, once_promise}
use Rattle.serf_judge_json.specs.Members.{joined, number_member, text_member}
use Rattle.serf_judge_json.specs.Places.{place_members}
use Rattle.serf_judge_json.specs.Repeats.{repeats_text, tallies_text}

-- a verdict, and one more member
unfoldable pub verdict_text : List ℕ → List ℕ → List ℕ → List ℕ
verdict_text promise verdict member =
    object_text (codes "verdict") (joined (text_member (codes "promise") promise ∷ text_member (codes "verdict") verdict ∷ member ∷ []))

-- the promise holds, or was not judged because the log has no lines of this kind
abbrev pub holds_text : List ℕ → List ℕ
holds_text promise = verdict_text promise (codes "holds") []

abbrev pub unasked_text : List ℕ → List ℕ → List ℕ
unasked_text promise lines = verdict_text promise (codes "not-asked") (text_member (codes "lines") lines)

-- a line breaks the promise, by itself or with an earlier line
unfoldable pub broken_text : LogPlaces → List ℕ → Kind → ℕ × Identity → List ℕ
broken_text places promise kind late =
    about_text (codes "verdict")
    (joined (text_member (codes "promise") promise ∷ text_member (codes "verdict") (codes "broken") ∷ place_members [] places late.0))
    kind late.1

unfoldable pub broken_with_text : LogPlaces → List ℕ → Kind → ℕ × Identity → ℕ × Identity → List ℕ
broken_with_text places promise kind late early =
    about_text (codes "verdict")
    (joined (text_member (codes "promise") promise ∷ text_member (codes "verdict") (codes "broken")
    ∷ (place_members [] places late.0 ++ place_members (codes "earlier_") places early.0 ++ number_member (codes "earlier_time") early.1.time ∷ [])))
    kind late.1

-- the line at an index, counted from 0
abbrev pub line_at : List (ℕ × Identity) → ℕ → ℕ × Identity
line_at lines place = slice_index_or lines place (0, record { node = []; time = 0; id = None; name = []; payload = [] })

-- Nothing is handed out twice. If it is, then the first two lines that hand out the same are given by their indexes.
abbrev pub once_text : LogPlaces → Kind → List (ℕ × Identity) → Option (ℕ × ℕ) → List ℕ
once_text places kind lines None = if length lines == 0 then unasked_text (once_promise kind) (kind_word kind) else holds_text (once_promise kind)
once_text places kind lines (Some (early, late)) =
    broken_with_text places (once_promise kind) kind (line_at lines late) (line_at lines early)
    ++ repeats_text places kind lines ++ tallies_text places kind lines

-- each event was fired before it was handed out, except the one at this index
abbrev pub fired_text : LogPlaces → List (ℕ × Identity) → Option ℕ → List ℕ
fired_text places events None = holds_text (codes "Fired")
fired_text places events (Some place) = broken_text places (codes "Fired") kinds.Event (line_at events place)

-- each firing is later than what its node was handed, except the one at this index, for the event at the other index
abbrev pub later_text : LogPlaces → List (ℕ × Identity) → List (ℕ × Identity) → Option (ℕ × ℕ) → List ℕ
later_text places fired events None = holds_text (codes "Later")
later_text places fired events (Some (place, early)) =
    broken_with_text places (codes "Later") kinds.Event (line_at fired place) (line_at events early)

-- whether a log has both firings and events, so that the promises about firings are judged
abbrev pub has_both : Log → Bool
has_both log = nat_lt 0 (length log.fired.items) && nat_lt 0 (length log.events.items)

-- the kind of line that it lacks
abbrev pub lacking : Log → List ℕ
lacking log = if nat_lt 0 (length log.fired.items) then codes "event" else codes "fired"

abbrev pub firings_text : LogPlaces → Log → Option ℕ → Option (ℕ × ℕ) → List ℕ
firings_text places log unfired not_later =
    if has_both log
    then fired_text places (map event_seen log.events.items) unfired
    ++ later_text places (map event_seen log.fired.items) (map event_seen log.events.items) not_later
    else unasked_text (codes "Fired") (lacking log) ++ unasked_text (codes "Later") (lacking log)
