-- What the code records about items by their keys: private to the crate.
use Rattle.std.specs.Prelude.{◌≡◌, ℕ, ◌<◌, ◌&&◌, ◌||◌, not, nat_le, nat_lt, Bool, true, false, List, [], Option, None, Some, slice_get, unwrap_or}
use Rattle.std.specs.Borrow.{Bor}
use Rattle.std.specs.HashMap.{HashMap, get}
use Rattle.std.specs.HashSet.{HashSet, contains}
use Rattle.std.specs.List.{list_any}
use Rattle.std.specs.Str.{bytes_eq}
use Rattle.serf_judge.specs.declared.entry.EventEntry.{EventEntry}
use Rattle.serf_judge.specs.declared.fired.ContentKey.{ContentKey}
use Rattle.serf_judge.specs.declared.fired.Firings.{Firings}
use Rattle.serf_judge.specs.declared.key.Key.{Key}
use Rattle.serf_judge.specs.declared.tally.Tally.{Tally}
use Rattle.serf_judge.specs.Again.{picked_after}
use Rattle.serf_judge.specs.Fired.{content_key_eq, content_of, is_same_content, key_content, log_at}
use Rattle.serf_judge.specs.Identity.{Identity, event_identity, is_same, key_eq, key_identity}
use Rattle.serf_judge.specs.Nodes.{is_same_text}
use Rattle.serf_judge.specs.Tallies.{lines_to, tally_of}

-- whether an item is kept, depending on whether its key appears before it: one that appears again, or one that appears
-- first
abbrev pub kept : Bool → Bool → Bool
kept true b = b
kept false b = not b

-- the items that are kept were found, and the keys of all items are recorded
pub record AreKept {X K : Type 0} (again : Bool) (eq : K → K → Bool) (key : X → K) (items found : List X) (recorded : K → Bool) : Type 0 where
  pub found_are : found ≡ picked_after (kept again) (λ x y. eq (key x) (key y)) [] items
  pub recorded_are : (q : K) → recorded q ≡ list_any (λ x. eq q (key x)) items

-- the set has the keys of these events
abbrev pub HasHanded : {S : Type 0} → List EventEntry → HashSet Key S → Type 0
HasHanded events handed = (q : Key) → contains key_eq handed q ≡ list_any (λ e. is_same (key_identity q) (event_identity e)) events

-- whether a set has no key of an event at a node
abbrev pub lacks : {S : Type 0} → HashSet Key S → ContentKey → Bor (List ℕ) → Bool
lacks handed event node = not (contains key_eq handed (record { node = node; time = event.time; id = None; name = event.name; payload = event.payload }))

-- the table has the tally of each node's lines; a node that it doesn't have has no lines
abbrev pub AreTallied : {S : Type 0} → List (ℕ × Identity) → HashMap (Bor (List ℕ)) Tally S → Type 0
AreTallied lines table = (q : Bor (List ℕ)) → unwrap_or (get is_same_text table q) (tally_of []) ≡ tally_of (lines_to q.now lines)

-- what a table says about a key, by a test of what is recorded for it; nothing passes if nothing is recorded
abbrev pub says : {V P : Type 0} → (V → P → Bool) → Option V → P → Bool
says test None p = false
says test (Some v) p = test v p

-- the table says whether one of the key's items passes
abbrev pub Records : {K V C X P : Type 0} → (C → C → Bool) → (K → C) → (X → C) → (V → P → Bool) → (X → P → Bool) → List X → (K → Option V) → Type 0
Records {K} {V} {C} {X} {P} same view content test passes items recorded = (q : K) (p : P) → says test (recorded q) p ≡ list_any (λ x. same (view q) (content x) && passes x p) items

-- whether one of these firings is on a line before a given one, or in a later log: the firings that are recorded, and a
-- single one
abbrev pub counts : Firings → ℕ × ℕ → Bool
counts recorded at = nat_lt recorded.first_line at.0 || nat_lt at.1 recorded.last_log

abbrev pub one_counts : List ℕ → EventEntry → ℕ × ℕ → Bool
one_counts starts f at = nat_lt f.line at.0 || nat_lt at.1 (log_at starts f.line)

-- where each event was fired
abbrev pub AreRecorded : {S : Type 0} → List ℕ → List EventEntry → HashMap ContentKey Firings S → Type 0
AreRecorded starts fired table = Records is_same_content key_content content_of counts (one_counts starts) fired (λ q. get content_key_eq table q)

-- the maximum time of what each node was handed
abbrev pub AreLargest : {S : Type 0} → List EventEntry → HashMap (Bor (List ℕ)) ℕ S → Type 0
AreLargest events largest = Records bytes_eq (λ q. q.now) (λ e. e.node.items) (λ recorded time. nat_le time recorded) (λ e time. nat_le time e.time) events (λ q. get is_same_text largest q)

-- an event that the node which fires was handed on an earlier line, at this time or a later one
abbrev pub is_handed_at : EventEntry → ℕ → EventEntry → Bool
is_handed_at f time e = bytes_eq f.node.items e.node.items && (nat_lt e.line f.line && nat_le time e.time)

-- the first events are those on the lines before this one
pub record IsCut (events : List EventEntry) (n line : ℕ) : Type 0 where
  pub inside : (i : ℕ) (e : EventEntry) → i < n → slice_get events i ≡ Some e → e.line < line
  pub outside : (i : ℕ) (e : EventEntry) → slice_get events i ≡ Some e → e.line < line → i < n
