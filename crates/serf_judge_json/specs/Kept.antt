-- What a node can be handed again after a start from its snapshot.
use Rattle.std.specs.Prelude.{ℕ, ◌==◌, ◌++◌, ◌||◌, Bool, true, false, if◌then◌else◌, List, [], ◌∷◌, length, codes, Option, Some, None}
use Rattle.std.specs.List.{find}
use Rattle.std.specs.Option.{is_some, option_map}
use Rattle.serf_json.specs.Json.{bytes_member}
use Rattle.serf_json.specs.Object.{object_text}
use Rattle.serf_snapshot.specs.Clocks.{last_clock}
use Rattle.serf_snapshot.specs.declared.kind.ClockKind.{ClockKind}
use Rattle.serf_snapshot.specs.declared.kind.ClockKind.TheVariants as clocks
use Rattle.serf_judge.specs.declared.log.Log.{Log}
use Rattle.serf_judge.specs.declared.reader.Reader.{Reader}
use Rattle.serf_judge.specs.declared.reader.Reader.TheVariants as readers
use Rattle.serf_judge.specs.HandedAgain.{is_again, is_new_event, is_new_query}
use Rattle.serf_judge.specs.Identity.{Identity, event_seen, query_seen}
use Rattle.serf_judge.specs.SerfClocks.{serf_clock}
use Rattle.serf_judge_json.specs.declared.kind.Kind.{Kind}
use Rattle.serf_judge_json.specs.declared.kind.Kind.TheVariants as kinds
use Rattle.serf_judge_json.specs.declared.places.LogPlaces.{LogPlaces}
use Rattle.serf_judge_json.specs.Kinds.{kind_word}
use Rattle.serf_judge_json.specs.Members.{flag_member, joined, number_member, text_member}
use Rattle.serf_judge_json.specs.Places.{place_members}

-- the clock of a kind that the reader of a snapshot restores
abbrev pub restored_clock : ClockKind → Reader → List ℕ → ℕ
restored_clock kind (readers.Serf rejoins) text = serf_clock rejoins kind text
restored_clock kind (readers.Agent keeps) text = last_clock kind text

abbrev pub reader_word : Reader → List ℕ
reader_word (readers.Serf rejoins) = codes "serf"
reader_word (readers.Agent false) = codes "own"
reader_word (readers.Agent true) = codes "own-kept"

-- whether Serf is started with `-rejoin`, if the snapshot has a line `leave`
abbrev pub rejoin_member : Reader → Bool → List ℕ
rejoin_member (readers.Serf rejoins) true = flag_member (codes "rejoin") rejoins
rejoin_member (readers.Serf rejoins) false = []
rejoin_member (readers.Agent keeps) has_left = []

-- whether a line can be handed out again, and which one is the first
abbrev pub again_members : LogPlaces → Option (ℕ × Identity) → List (List ℕ)
again_members places None = flag_member (codes "again") false ∷ []
again_members places (Some line) = flag_member (codes "again") true ∷ (place_members [] places line.0 ++ number_member (codes "time") line.1.time ∷ [])

unfoldable pub kept_text : LogPlaces → Kind → List ℕ → Reader → Bool → ℕ → Option (ℕ × Identity) → List ℕ
kept_text places kind node reader has_left clock again =
    object_text (codes "kept")
    (joined (bytes_member (codes "node") node ∷ text_member (codes "of") (kind_word kind) ∷ text_member (codes "reader") (reader_word reader)
    ∷ rejoin_member reader has_left ∷ number_member (codes "clock") clock ∷ [])
    ++ joined (again_members places again))

-- nothing is written if there are no entries
abbrev pub kept_text_of : {E : Type 0} → List E → List ℕ → List ℕ
kept_text_of entries text = if length entries == 0 then [] else text

-- the first of some entries that passes a test
abbrev pub first_again : {E : Type 0} → (E → Bool) → (E → ℕ × Identity) → List E → Option (ℕ × Identity)
first_again test seen entries = option_map seen (find test entries)

-- the first event of a log, and the first query, that the reader of a snapshot can hand to a node again
abbrev pub event_again : Reader → List ℕ → List ℕ → Log → Option (ℕ × Identity)
event_again reader snapshot node log = first_again (is_again clocks.Event event_seen is_new_event reader snapshot node) event_seen log.events.items

abbrev pub query_again : Reader → List ℕ → List ℕ → Log → Option (ℕ × Identity)
query_again reader snapshot node log = first_again (is_again clocks.Query query_seen is_new_query reader snapshot node) query_seen log.queries.items

-- whether there is one
abbrev pub can_repeat : Reader → List ℕ → List ℕ → Log → Bool
can_repeat reader snapshot node log = is_some (event_again reader snapshot node log) || is_some (query_again reader snapshot node log)

-- an object about the events, if the log has some, and one about the queries
abbrev pub kept_events_text : LogPlaces → Log → List ℕ → List ℕ → Reader → Bool → List ℕ
kept_events_text places log node snapshot reader has_left =
    kept_text_of log.events.items (kept_text places kinds.Event node reader has_left (restored_clock clocks.Event reader snapshot) (event_again reader snapshot node log))

abbrev pub kept_queries_text : LogPlaces → Log → List ℕ → List ℕ → Reader → Bool → List ℕ
kept_queries_text places log node snapshot reader has_left =
    kept_text_of log.queries.items (kept_text places kinds.Query node reader has_left (restored_clock clocks.Query reader snapshot) (query_again reader snapshot node log))
