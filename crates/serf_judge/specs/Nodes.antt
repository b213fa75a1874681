-- The nodes that a log names, each of them once.
use Rattle.std.specs.Prelude.{ℕ, ◌++◌, Bool, List, map}
use Rattle.std.specs.Borrow.{Bor}
use Rattle.std.specs.Str.{bytes_eq}
use Rattle.serf_judge.specs.declared.log.Log.{Log}
use Rattle.serf_judge.specs.Again.{firsts_of}
use Rattle.serf_judge.specs.Identity.{Identity, event_seen, query_seen}

-- the bytes of texts that are borrowed
abbrev pub texts_of : List (Bor (List ℕ)) → List (List ℕ)
texts_of borrowed = map (λ t. t.now) borrowed

abbrev pub is_same_text : Bor (List ℕ) → Bor (List ℕ) → Bool
is_same_text x y = bytes_eq x.now y.now

-- the nodes of some entries, and each of them once, in the order in which they first appear
abbrev pub nodes_in : {E : Type 0} → (E → ℕ × Identity) → List E → List (List ℕ)
nodes_in seen entries = map (λ e. (seen e).1.node) entries

abbrev pub receivers_of : {E : Type 0} → (E → ℕ × Identity) → List E → List (List ℕ)
receivers_of seen entries = firsts_of bytes_eq (nodes_in seen entries)

-- the nodes that a log names at all
abbrev pub log_nodes_of : Log → List (List ℕ)
log_nodes_of log = firsts_of bytes_eq (nodes_in event_seen log.events.items ++ nodes_in query_seen log.queries.items ++ nodes_in event_seen log.fired.items)
