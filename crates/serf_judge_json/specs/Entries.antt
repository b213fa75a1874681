-- Objects about what the lines of a log say. A line is its number, with an event or a query at a node.
use Rattle.std.specs.Prelude.{ℕ, ◌++◌, List, [], ◌∷◌, length, codes, Option, Some, None}
use Rattle.std.specs.List.{flat_map}
use Rattle.serf_json.specs.Json.{bytes_member}
use Rattle.serf_json.specs.Object.{object_text}
use Rattle.serf_text.specs.CauseText.{cause_text}
use Rattle.serf_judge.specs.declared.entry.BadLine.{BadLine}
use Rattle.serf_judge.specs.declared.log.Log.{Log}
use Rattle.serf_judge.specs.HandedAgain.{unescaped}
use Rattle.serf_judge.specs.Identity.{Identity}
use Rattle.serf_judge.specs.Nodes.{log_nodes_of}
use Rattle.serf_judge_json.specs.declared.kind.Kind.{Kind}
use Rattle.serf_judge_json.specs.declared.kind.Kind.TheVariants as kinds
use Rattle.serf_judge_json.specs.declared.places.LogPlaces.{LogPlaces}
use Rattle.serf_judge_json.specs.Members.{joined, number_member, text_member}
use Rattle.serf_judge_json.specs.Places.{place_members}

abbrev pub event_members : List ℕ → ℕ → List ℕ → List ℕ → List (List ℕ)
event_members node time name payload =
    bytes_member (codes "node") node
    ∷ number_member (codes "time") time
    ∷ bytes_member (codes "name") name
    ∷ bytes_member (codes "payload") payload
    ∷ []

abbrev pub id_member : Option ℕ → List ℕ
id_member None = []
id_member (Some id) = number_member (codes "id") id

-- an event or a query at a node; the name and the payload of an event are decoded
abbrev pub about_members : Kind → Identity → List (List ℕ)
about_members kinds.Event i = event_members i.node i.time (unescaped i.name) (unescaped i.payload)
about_members kinds.Query i = bytes_member (codes "node") i.node ∷ number_member (codes "time") i.time ∷ id_member i.id ∷ []

-- an object of this kind about it, with these members in front
unfoldable pub about_text : List ℕ → List ℕ → Kind → Identity → List ℕ
about_text object front kind i = object_text object (front ++ joined (about_members kind i))

unfoldable pub entry_text : LogPlaces → List ℕ → Kind → ℕ × Identity → List ℕ
entry_text places object kind line = about_text object (joined (place_members [] places line.0)) kind line.1

-- an object for each entry
abbrev pub entries_text : {E : Type 0} → LogPlaces → List ℕ → Kind → (E → ℕ × Identity) → List E → List ℕ
entries_text places object kind seen entries = flat_map (λ e. entry_text places object kind (seen e)) entries

-- a line that can't be read, and why
unfoldable pub bad_text : LogPlaces → BadLine → List ℕ
bad_text places bad =
    object_text (codes "bad") (joined (place_members [] places bad.line) ++ joined (text_member (codes "cause") (cause_text bad.cause) ∷ []))

unfoldable pub node_text : List ℕ → List ℕ
node_text node = object_text (codes "node") (joined (bytes_member (codes "node") node ∷ []))

-- how much a log says, which names so many nodes
unfoldable pub counts_text : Log → ℕ → List ℕ
counts_text log nodes =
    object_text (codes "read")
    (joined (number_member (codes "events") (length log.events.items) ∷ number_member (codes "queries") (length log.queries.items)
    ∷ number_member (codes "fired") (length log.fired.items) ∷ number_member (codes "nodes") nodes
    ∷ number_member (codes "bad") (length log.bad.items) ∷ []))

-- and which nodes it names
abbrev pub read_text : Log → List ℕ
read_text log = counts_text log (length (log_nodes_of log)) ++ flat_map node_text (log_nodes_of log)
