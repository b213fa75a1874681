-- A map that is read in one pass: what was found of its fields so far.
use Rattle.std.specs.Prelude.{◌≡◌, ◌<◌, ℕ, false, unwrap_or, List, [], ◌∷◌, ◌++◌, length, codes, Option, Some, None}
use Rattle.std.specs.Option.{option_copied, option_map}
use Rattle.std.specs.List.{flat_map}
use Rattle.serf_lamport.specs.Clock.{max_clock}
use Rattle.serf_pack.specs.Tree.{Tree, raw, Pairs}
use Rattle.serf_pack.specs.Packs.{Packs, PackPairs, pair_count}
use Rattle.serf_pack.specs.View.{raw_of, pair_list}
use Rattle.serf_pack.specs.Canonical.{raw_bytes}
use Rattle.serf_wire.specs.declared.fast.event.EventFields.{EventFields}
use Rattle.serf_wire.specs.declared.fast.state.StateFields.{StateFields}
use Rattle.serf_wire.specs.Lists.{texts_left, status_left, slots_left}
use Rattle.serf_wire.specs.Message.{UserEvent, PushPull}
use Rattle.serf_wire.specs.Fields.{text, truth, number, list, status, slot, values_of}
use Rattle.serf_wire.specs.Spells.{HasRawKeys}

-- the bytes begin with a value that means x, and the rest follows
pub record Reads {A : Type 0} (meaning : Tree → Option A) (x : A) (bytes rest : List ℕ) : Type 0 where
  pub front : List ℕ
  pub tree : ℕ → Tree
  pub bytes_are : bytes ≡ front ++ rest
  pub packs : (d p : ℕ) → Packs (tree p) d p front
  pub means : (p : ℕ) → meaning (tree p) ≡ Some x

-- the same, for a value that is inside fewer than limit others
pub record ReadsIn {A : Type 0} (limit : ℕ) (meaning : Tree → Option A) (x : A) (bytes rest : List ℕ) : Type 0 where
  pub front : List ℕ
  pub tree : ℕ → Tree
  pub bytes_are : bytes ≡ front ++ rest
  pub packs : (d p : ℕ) → d < limit → Packs (tree p) d p front
  pub means : (p : ℕ) → meaning (tree p) ≡ Some x

-- the same, with any meaning
pub record Spans {A : Type 0} (limit : ℕ) (meaning : Tree → Option A) (bytes rest : List ℕ) : Type 0 where
  pub value : A
  pub reads : ReadsIn limit meaning value bytes rest

-- the bytes begin with a key of this name and a value that means x
pub record ReadsPair {A : Type 0} (limit : ℕ) (meaning : Tree → Option A) (name : List ℕ) (x : A) (bytes rest : List ℕ) : Type 0 where
  pub following : List ℕ
  pub bytes_are : bytes ≡ raw_bytes name ++ following
  pub reads : ReadsIn limit meaning x following rest

-- the bytes begin with n parts
pub record AreParts {X : Type 0} (bytes_of : X → List ℕ) (n : ℕ) (bytes rest : List ℕ) : Type 0 where
  pub parts : List X
  pub bytes_are : bytes ≡ flat_map bytes_of parts ++ rest
  pub count : length parts ≡ n

-- a value's bytes and its meaning, at every place
pub record Item {A : Type 0} (limit : ℕ) (meaning : Tree → Option A) : Type 0 where
  pub front : List ℕ
  pub tree : ℕ → Tree
  pub value : A
  pub packs : (d p : ℕ) → d < limit → Packs (tree p) d p front
  pub means : (p : ℕ) → meaning (tree p) ≡ Some value

-- the bytes begin with n values of a kind
abbrev pub AreItems : {A : Type 0} → ℕ → (Tree → Option A) → ℕ → List ℕ → List ℕ → Type 0
AreItems limit meaning n bytes rest = AreParts (λ (t : Item limit meaning). t.front) n bytes rest

-- the bytes of a name and those of its time
pub record StatusPart : Type 0 where
  pub name : Item 9 raw_of
  pub time : Item 9 (number max_clock)

abbrev pub status_part_bytes : StatusPart → List ℕ
status_part_bytes t = t.name.front ++ t.time.front

-- the bytes begin with a name and its time
pub record SpansStatusTime (bytes rest : List ℕ) : Type 0 where
  pub part : StatusPart
  pub bytes_are : bytes ≡ status_part_bytes part ++ rest

-- what was found of a field, if these are its values
abbrev pub Shows : {A : Type 0} → (Tree → Option A) → Option A → List Tree → Type 0
Shows meaning None vs = vs ≡ []
Shows meaning (Some x) vs = (v : Tree) × (vs ≡ v ∷ []) × (meaning v ≡ Some x)

-- what was found of a user event, if these are its pairs
pub record IsEventSoFar (found : EventFields) (ps : List (Tree × Tree)) : Type 0 where
  pub keys : HasRawKeys ps
  pub time : Shows (number max_clock) found.time (values_of (codes "LTime") ps)
  pub name : Shows text (option_copied found.name) (values_of (codes "Name") ps)
  pub payload : Shows text (option_copied found.payload) (values_of (codes "Payload") ps)
  pub coalesce : Shows truth found.coalesce (values_of (codes "CC") ps)

-- what was found of a state, if these are its pairs
pub record IsStateSoFar (found : StateFields) (ps : List (Tree × Tree)) : Type 0 where
  pub keys : HasRawKeys ps
  pub member_clock : Shows (number max_clock) found.member_clock (values_of (codes "LTime") ps)
  pub status : Shows status (option_map status_left found.status) (values_of (codes "StatusLTimes") ps)
  pub left : Shows (list text) (option_map texts_left found.left) (values_of (codes "LeftMembers") ps)
  pub event_clock : Shows (number max_clock) found.event_clock (values_of (codes "EventLTime") ps)
  pub slots : Shows (list slot) (option_map slots_left found.slots) (values_of (codes "Events") ps)
  pub query_clock : Shows (number max_clock) found.query_clock (values_of (codes "QueryLTime") ps)

-- the bytes begin with a pair, which extends what was found before from old to new
pub record Extends {F : Type 0} (IsSoFar : F → List (Tree × Tree) → Type 0) (old new : F) (bytes rest : List ℕ) : Type 0 where
  pub name : List ℕ
  pub short : length name < 4294967296
  pub value : ℕ → Tree
  pub text : List ℕ
  pub bytes_are : bytes ≡ raw_bytes name ++ (text ++ rest)
  pub packs : (p : ℕ) → Packs (value p) 1 p text
  pub found : (p q : ℕ) (ps : List (Tree × Tree)) → IsSoFar old ps → IsSoFar new (ps ++ (raw p name, value q) ∷ [])

-- the bytes begin with n pairs, in which this was found
pub record IsReadSoFar {F : Type 0} (IsSoFar : F → List (Tree × Tree) → Type 0) (found : F) (n : ℕ) (bytes rest : List ℕ) : Type 0 where
  pub pairs : Pairs
  pub text : List ℕ
  pub bytes_are : bytes ≡ text ++ rest
  pub packs : PackPairs pairs 1 1 text
  pub count : pair_count pairs ≡ n
  pub is : IsSoFar found (pair_list pairs)

-- ---- the message with what was found

abbrev pub found_event : EventFields → UserEvent
found_event f = record {
  time = unwrap_or f.time 0;
  name = unwrap_or (option_copied f.name) [];
  payload = unwrap_or (option_copied f.payload) [];
  coalesce = unwrap_or f.coalesce false;
}

abbrev pub found_state : StateFields → PushPull
found_state f = record {
  member_clock = unwrap_or f.member_clock 0;
  status = unwrap_or (option_map status_left f.status) [];
  left = unwrap_or (option_map texts_left f.left) [];
  event_clock = unwrap_or f.event_clock 0;
  slots = unwrap_or (option_map slots_left f.slots) [];
  query_clock = unwrap_or f.query_clock 0;
}
