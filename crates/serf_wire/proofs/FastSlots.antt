-- Events and slots at the start of bytes.
use Rattle.serf_wire.proofs.Names.{List, Option, Some, [], ap, append_assoc, arith, codes, length, lit<, refl, sym, ℕ, ◌++◌, ◌+◌, ◌<◌, ◌∙◌, ◌∷◌, ◌≡◌, ◌≤◌, max_clock, raw_bytes, Tree, raw, Below, Reads, ReadsIn, ReadsPair, both, event_body, field, list, map_of, number, slot, text, time, SlotContent, empty, held, EventBody}
use Rattle.serf_wire.proofs.Spelling.{Entry, entries_part, entries_are_part}
use Rattle.serf_wire.proofs.FastReading.{anywhere, narrower}

-- ---- a key and its value

pub pair_reads : {A : Type 0} (limit : ℕ) (meaning : Tree → Option A) (name : List ℕ) (x : A) (bytes following rest : List ℕ) → bytes ≡ raw_bytes name ++ following → Reads meaning x following rest → ReadsPair limit meaning name x bytes rest
pair_reads limit meaning name x bytes following rest e r = record { following = following; bytes_are = e; reads = anywhere limit meaning x following rest r }

pub time_reads : (n : ℕ) (bytes rest : List ℕ) → n ≤ 18446744073709551614 → Reads (number max_clock) n bytes rest → Reads time n bytes rest
time_reads n bytes rest le r = record { front = r.front; tree = r.tree; bytes_are = r.bytes_are; packs = r.packs; means = λ p. narrower (r.tree p) max_clock n 18446744073709551614 (r.means p) le }

-- ---- a map of two pairs

joined : (key front next following rest : List ℕ) → key ++ (front ++ (next ++ (following ++ rest))) ≡ ((key ++ front) ++ ((next ++ following) ++ [])) ++ rest
joined key front next following rest =
    sym (
    append_assoc (key ++ front) ((next ++ following) ++ []) rest ∙ append_assoc key front (((next ++ following) ++ []) ++ rest)
    ∙ ap (λ t. key ++ (front ++ t)) (append_assoc (next ++ following) [] rest ∙ append_assoc next following rest)
    )

two_pairs : Below → {A B C : Type 0} (limit : ℕ) (zero : C) (fields : List (Tree × Tree) → Option C) (make : A → B → C) (one : Tree → Option A) (other : Tree → Option B) (name next bytes parts mid rest : List ℕ) → limit ≤ 8 → length name < 4294967296 → length next < 4294967296
    → ((p q : ℕ) (v w : Tree) (x : A) (y : B) → one v ≡ Some x → other w ≡ Some y → fields ((raw p name, v) ∷ (raw q next, w) ∷ []) ≡ Some (make x y))
    → bytes ≡ 0x82 ∷ parts → (x : A) (y : B) → ReadsPair (limit + 1) one name x parts mid → ReadsPair (limit + 1) other next y mid rest → ReadsIn limit (map_of zero fields) (make x y) bytes rest
two_pairs below limit zero fields make one other name next bytes parts mid rest small short short2 is e x y a b =
    let f = a.reads in
    let g = b.reads in
    let entries : List Entry = record { name = name; value = record { bytes = f.front; tree = f.tree } } ∷ record { name = next; value = record { bytes = g.front; tree = g.tree } } ∷ [] in record {
      front = (entries_part entries).bytes;
      tree = (entries_part entries).tree;
      bytes_are = e ∙ ap (λ t. 0x82 ∷ t) (a.bytes_are ∙ ap (λ t. raw_bytes name ++ t) (f.bytes_are ∙ ap (λ t. f.front ++ t) (b.bytes_are ∙ ap (λ t. raw_bytes next ++ t) g.bytes_are)) ∙ joined (raw_bytes name) f.front (raw_bytes next) g.front rest);
      packs = λ d p room.
          entries_are_part below d entries (omega arith) (record { short = short; is = λ q. f.packs (d + 1) q (omega arith) }, (record { short = short2; is = λ q. g.packs (d + 1) q (omega arith) }, tt)) (lit< tt) p;
      means = λ p. is _ _ _ _ x y (f.means _) (g.means _);
    }

-- ---- events and slots

abbrev event_fields : List (Tree × Tree) → Option EventBody
event_fields ps = both (λ n p. record { name = n; payload = p }) (field text (codes "Name") ps) (field text (codes "Payload") ps)

pub event_reads : Below → (name payload bytes parts mid rest : List ℕ) → bytes ≡ 0x82 ∷ parts → ReadsPair 9 text (codes "Name") name parts mid → ReadsPair 9 text (codes "Payload") payload mid rest → ReadsIn 8 event_body (record { name = name; payload = payload }) bytes rest
event_reads below name payload bytes parts mid rest e a b =
    two_pairs below 8 (record { name = []; payload = [] }) event_fields (λ n p. record { name = n; payload = p }) text text (codes "Name") (codes "Payload") bytes parts mid rest (omega arith) (lit< tt) (lit< tt) (λ p q v w x y f g. rw (f, g) refl) e name payload a b

abbrev slot_fields : List (Tree × Tree) → Option SlotContent
slot_fields ps = both held (field time (codes "LTime") ps) (field (list event_body) (codes "Events") ps)

pub slot_reads : Below → (t : ℕ) (events : List EventBody) (bytes parts mid rest : List ℕ) → bytes ≡ 0x82 ∷ parts → ReadsPair 7 time (codes "LTime") t parts mid → ReadsPair 7 (list event_body) (codes "Events") events mid rest → ReadsIn 6 slot (held t events) bytes rest
slot_reads below t events bytes parts mid rest e a b = two_pairs below 6 empty slot_fields held time (list event_body) (codes "LTime") (codes "Events") bytes parts mid rest (omega arith) (lit< tt) (lit< tt) (λ p q v w x y f g. rw (f, g) refl) e t events a b

pub events_first_reads : Below → (t : ℕ) (events : List EventBody) (bytes parts mid rest : List ℕ) → bytes ≡ 0x82 ∷ parts → ReadsPair 7 (list event_body) (codes "Events") events parts mid → ReadsPair 7 time (codes "LTime") t mid rest → ReadsIn 6 slot (held t events) bytes rest
events_first_reads below t events bytes parts mid rest e a b =
    two_pairs below 6 empty slot_fields (λ events time. held time events) (list event_body) time (codes "Events") (codes "LTime") bytes parts mid rest (omega arith) (lit< tt) (lit< tt) (λ p q v w x y f g. rw (f, g) refl) e events t a b
