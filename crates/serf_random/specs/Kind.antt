-- The names of the kinds of random schedules.
use Rattle.std.specs.Prelude.{ℕ, Bool, true, false, List, if◌then◌else◌, codes, Option, Some, None}
use Rattle.std.specs.Str.{bytes_eq}
use Rattle.serf_random.specs.declared.kind.Kind.{Kind}
use Rattle.serf_random.specs.declared.kind.Kind.TheVariants as kinds

abbrev pub kind_name : Kind → List ℕ
kind_name kinds.Mixed = codes "mixed"
kind_name kinds.Tiny = codes "tiny"
kind_name kinds.Merges = codes "merges"
kind_name kinds.Restarts = codes "restarts"
kind_name kinds.Devices = codes "devices"
kind_name kinds.Injections = codes "injections"
kind_name kinds.Queries = codes "queries"
kind_name kinds.Limits = codes "limits"
kind_name kinds.Exhaustion = codes "exhaustion"
kind_name kinds.PerTime = codes "per-time"
kind_name kinds.Compactions = codes "compactions"
kind_name kinds.Gossip = codes "gossip"
kind_name kinds.Spellings = codes "spellings"
kind_name kinds.Kept = codes "kept"
kind_name kinds.Rounds = codes "rounds"

-- the kind with a name
abbrev pub kind_of : List ℕ → Option Kind
kind_of name =
    if bytes_eq name (codes "mixed") then Some kinds.Mixed
    else if bytes_eq name (codes "tiny") then Some kinds.Tiny
    else if bytes_eq name (codes "merges") then Some kinds.Merges
    else if bytes_eq name (codes "restarts") then Some kinds.Restarts
    else if bytes_eq name (codes "devices") then Some kinds.Devices
    else if bytes_eq name (codes "injections") then Some kinds.Injections
    else if bytes_eq name (codes "queries") then Some kinds.Queries
    else if bytes_eq name (codes "limits") then Some kinds.Limits
    else if bytes_eq name (codes "exhaustion") then Some kinds.Exhaustion
    else if bytes_eq name (codes "per-time") then Some kinds.PerTime
    else if bytes_eq name (codes "compactions") then Some kinds.Compactions
    else if bytes_eq name (codes "gossip") then Some kinds.Gossip
    else if bytes_eq name (codes "spellings") then Some kinds.Spellings
    else if bytes_eq name (codes "kept") then Some kinds.Kept
    else if bytes_eq name (codes "rounds") then Some kinds.Rounds
    else None

-- whether schedules of this kind have a fanout, losses and a number of rounds
abbrev pub is_rounds : Kind → Bool
is_rounds kinds.Rounds = true
is_rounds _ = false
