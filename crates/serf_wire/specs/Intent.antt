-- The announcement of a node that it joins, or that a node leaves: which bytes spell it (Serf's messages.go,
-- messageJoin and messageLeave). `decode` reads neither of them, and `read_intent` reads both.
use Rattle.std.specs.Prelude.{◌≡◌, ◌↔◌, ◌<◌, ℕ, Bool, false, List, [], ◌∷◌, ◌++◌, Option, Some, None, Result, Ok, Err, codes, ◌==◌, if◌then◌else◌}
use Rattle.serf_lamport.specs.Clock.{max_clock}
use Rattle.serf_pack.specs.Tree.{Tree, pairs, Pairs}
use Rattle.serf_pack.specs.Packs.{Packs}
use Rattle.serf_pack.specs.Reading.{whole_at}
use Rattle.serf_pack.specs.View.{pair_list}
use Rattle.serf_pack.specs.Canonical.{map_head, raw_bytes, uint_bytes, flag_bytes}
use Rattle.serf_wire.specs.declared.error.WireError.{WireError}
use Rattle.serf_wire.specs.declared.error.WireError.TheVariants as errors
use Rattle.serf_wire.specs.declared.intent.Intent.{Intent as Borrowed}
use Rattle.serf_wire.specs.declared.intent.Intent.TheVariants as borrowed
use Rattle.serf_wire.specs.declared.intent.IntentType.{IntentType}
use Rattle.serf_wire.specs.declared.intent.IntentType.TheVariants as types
use Rattle.serf_wire.specs.declared.layout.Class.{Class}
use Rattle.serf_wire.specs.declared.layout.Class.TheVariants as classes
use Rattle.serf_wire.specs.declared.layout.Layout.{Layout}
use Rattle.serf_wire.specs.declared.layout.Layout.TheVariants as layouts
use Rattle.serf_wire.specs.Canonical.{entry, is_long}
use Rattle.serf_wire.specs.Checked.{checked_pairs, made_of}
use Rattle.serf_wire.specs.Fields.{field, text, truth, time}
use Rattle.serf_wire.specs.Layout.{class_of}
use Rattle.serf_wire.specs.Lookups.{value_of_key, text_in, truth_in, time_in}
use Rattle.serf_wire.specs.Spells.{HasRawKeys, IsFirstMapError}

pub record Join : Type 0 where
  pub time : ℕ
  pub node : List ℕ

pub record Leave : Type 0 where
  pub time : ℕ
  pub node : List ℕ
  pub prune : Bool

pub data Intent : Type 0 where
  join : Join → Intent
  leave : Leave → Intent

abbrev pub join_of : ℕ → List ℕ → Intent
join_of time node = join (record { time = time; node = node })

abbrev pub leave_of : ℕ → List ℕ → Bool → Intent
leave_of time node prune = leave (record { time = time; node = node; prune = prune })

-- the meaning of an intent whose name is borrowed from a packet
abbrev pub intent_of : Borrowed → Intent
intent_of (borrowed.Join j) = join_of j.time j.node.now
intent_of (borrowed.Leave l) = leave_of l.time l.node.now l.prune

-- ---- which packets are intents

abbrev pub intent_type_of : ℕ → Option IntentType
intent_type_of kind = if kind == 0 then Some types.Leave else (if kind == 1 then Some types.Join else None)

abbrev pub intent_layout : IntentType → Layout
intent_layout types.Join = layouts.Join
intent_layout types.Leave = layouts.Leave

-- the map's fields are the intent's
pub record IsJoin (j : Join) (ps : List (Tree × Tree)) : Type 0 where
  pub keys : HasRawKeys ps
  pub time : field time (codes "LTime") ps ≡ Some j.time
  pub node : field text (codes "Node") ps ≡ Some j.node

pub record IsLeave (l : Leave) (ps : List (Tree × Tree)) : Type 0 where
  pub keys : HasRawKeys ps
  pub time : field time (codes "LTime") ps ≡ Some l.time
  pub node : field text (codes "Node") ps ≡ Some l.node
  pub prune : field truth (codes "Prune") ps ≡ Some l.prune

abbrev pub HasIntent : IntentType → Intent → List (Tree × Tree) → Type 0
HasIntent types.Join (join j) ps = IsJoin j ps
HasIntent types.Leave (leave l) ps = IsLeave l ps
HasIntent _ _ ps = ⊥

abbrev pub SpellsIntentAfter : Option IntentType → Intent → List ℕ → Type 0
SpellsIntentAfter (Some type) i bytes = (ps : Pairs) × Packs (pairs 0 ps) 0 0 bytes × HasIntent type i (pair_list ps)
SpellsIntentAfter None i bytes = ⊥

-- the packet spells the intent
abbrev pub SpellsIntent : Intent → List ℕ → Type 0
SpellsIntent i [] = ⊥
SpellsIntent i (kind ∷ bytes) = SpellsIntentAfter (intent_type_of kind) i bytes

abbrev pub IsUnknown : Class → Type 0
IsUnknown (classes.Read message) = ⊥
IsUnknown classes.Foreign = ⊥
IsUnknown classes.Unknown = Unit {0}

abbrev pub IsFirstIntentErrorAfter : Option IntentType → ℕ → List ℕ → WireError → Type 0
IsFirstIntentErrorAfter (Some type) kind bytes f = IsFirstMapError (intent_layout type) bytes f
IsFirstIntentErrorAfter None kind bytes f = IsUnknown (class_of kind) × (f ≡ errors.UnknownType kind)

-- the first error of a packet that isn't a message, or that should be an intent and isn't one
abbrev pub IsFirstIntentError : List ℕ → WireError → Type 0
IsFirstIntentError [] f = f ≡ errors.Empty
IsFirstIntentError (kind ∷ bytes) f = IsFirstIntentErrorAfter (intent_type_of kind) kind bytes f

-- the packet's type is a message's, but not an intent's
abbrev pub IsOther : List ℕ → Type 0
IsOther [] = ⊥
IsOther (kind ∷ bytes) = (intent_type_of kind ≡ None) × (IsUnknown (class_of kind) → ⊥)

-- ---- the same as a function

abbrev pub join_in : List (Tree × Tree) → Join
join_in ps = record { time = time_in (value_of_key (codes "LTime") ps); node = text_in (value_of_key (codes "Node") ps) }

abbrev pub leave_in : List (Tree × Tree) → Leave
leave_in ps = record {
  time = time_in (value_of_key (codes "LTime") ps);
  node = text_in (value_of_key (codes "Node") ps);
  prune = truth_in (value_of_key (codes "Prune") ps);
}

abbrev pub intent_in : IntentType → List (Tree × Tree) → Intent
intent_in types.Join ps = join (join_in ps)
intent_in types.Leave ps = leave (leave_in ps)

-- a packet of a type that isn't an intent's
abbrev pub other_message : Class → ℕ → Result (Option Intent) WireError
other_message (classes.Read message) kind = Ok None
other_message classes.Foreign kind = Ok None
other_message classes.Unknown kind = Err (errors.UnknownType kind)

abbrev pub read_intent_map : IntentType → List ℕ → Result Intent WireError
read_intent_map type bytes = made_of (intent_in type) (checked_pairs (intent_layout type) (whole_at 8 bytes))

abbrev pub intent_after : Option IntentType → ℕ → List ℕ → Result (Option Intent) WireError
intent_after (Some type) kind bytes = made_of Some (read_intent_map type bytes)
intent_after None kind bytes = other_message (class_of kind) kind

-- the intent that a packet spells, nothing for the packet of another message, or the first error
unfoldable pub intent_read : List ℕ → Result (Option Intent) WireError
intent_read [] = Err errors.Empty
intent_read (kind ∷ bytes) = intent_after (intent_type_of kind) kind bytes

-- ---- the one canonical packet

abbrev pub canonical_join : Join → List ℕ
canonical_join j = 1 ∷ [] ++ map_head 2 ++ entry (codes "LTime") (uint_bytes j.time) ++ entry (codes "Node") (raw_bytes j.node)

abbrev pub canonical_leave : Leave → List ℕ
canonical_leave l =
    0 ∷ [] ++ map_head 3 ++ entry (codes "LTime") (uint_bytes l.time) ++ entry (codes "Node") (raw_bytes l.node) ++ entry (codes "Prune") (flag_bytes l.prune)

abbrev pub canonical_intent : Intent → List ℕ
canonical_intent (join j) = canonical_join j
canonical_intent (leave l) = canonical_leave l

abbrev pub intent_time : Intent → ℕ
intent_time (join j) = j.time
intent_time (leave l) = l.time

abbrev pub intent_node : Intent → List ℕ
intent_node (join j) = j.node
intent_node (leave l) = l.node

-- ---- laws

-- bytes are read as an intent if and only if they spell it, as an error if and only if it is their first one, and as
-- neither if and only if they are another message's
pub record ReadsIntents : Type 0 where
  pub spells : (packet : List ℕ) (i : Intent) → (intent_read packet ≡ Ok (Some i)) ↔ SpellsIntent i packet
  pub error : (packet : List ℕ) (f : WireError) → (intent_read packet ≡ Err f) ↔ IsFirstIntentError packet f
  pub other : (packet : List ℕ) → (intent_read packet ≡ Ok None) ↔ IsOther packet

-- the canonical packet of an intent spells it, if its time is valid and its name is not too long
abbrev pub CanonicalIntents : Type 0
CanonicalIntents = (i : Intent) → intent_time i < max_clock → is_long (intent_node i) ≡ false → SpellsIntent i (canonical_intent i)
