-- The texts of a message's events are bytes, if the packet consists of bytes.
use Rattle.serf_wire.proofs.Names.{Bool, List, None, Ok, Option, Some, [], arith, cond, false, length, refl, subst, suc, sym, true, zero, ℕ, ◌++◌, ◌+◌, ◌∷◌, ◌≡◌, same_Some, AllByRecursion, PackItems, PackPairs, Packs, Items, Pairs, Tree, array, flag, int, item, nil, no_items, no_pairs, pair, pairs, raw, item_list, pair_list, Below, AreBytes, EventsHaveBytes, HasBytes, SlotHasBytes, decoded, all, both, event_body, field, in_front, is_key, list, raw_keys, slot, sole, text, time, values_of, class_of, Message, push_pull, query, query_response, user_event, SlotContent, empty, held, HasFields, Spells, SpellsAfter, Class, MessageType, EventBody}
use Rattle.std.specs.Prelude.{codes}
use Rattle.serf_wire.specs.declared.layout.MessageType.TheVariants as types
use Rattle.serf_wire.specs.declared.layout.Class.TheVariants as classes
use Rattle.serf_wire.proofs.Packets.{decoded_spelled}
use Rattle.serf_wire.proofs.SpelledRanges.{both_has}

-- ---- parts of bytes

no-bytes : AreBytes []
no-bytes zero = omega arith
no-bytes (suc i) = omega arith

bytes-front : (a b : List ℕ) → AreBytes (a ++ b) → AreBytes a
bytes-front [] b h zero = omega arith
bytes-front [] b h (suc i) = omega arith
bytes-front (x ∷ a) b h zero = h 0
bytes-front (x ∷ a) b h (suc i) = bytes-front a b (λ (j : ℕ). h (suc j)) i

bytes-back : (a b : List ℕ) → AreBytes (a ++ b) → AreBytes b
bytes-back [] b h = h
bytes-back (x ∷ a) b h = bytes-back a b (λ i. h (suc i))

bytes-first : (a b all : List ℕ) → all ≡ a ++ b → AreBytes all → AreBytes a
bytes-first a b all is h = bytes-front a b (subst AreBytes is h)

bytes-rest : (a b all : List ℕ) → all ≡ a ++ b → AreBytes all → AreBytes b
bytes-rest a b all is h = bytes-back a b (subst AreBytes is h)

-- ---- the texts of a value

-- each byte string in a value consists of bytes, except for the keys of maps
abbrev mutual
  OfBytes : Tree → Type 0
  OfBytes (nil p) = Unit {0}
  OfBytes (flag p b) = Unit {0}
  OfBytes (int p z) = Unit {0}
  OfBytes (raw p s) = AreBytes s
  OfBytes (array p vs) = ItemsOfBytes vs
  OfBytes (pairs p ps) = PairsOfBytes ps

  ItemsOfBytes : Items → Type 0
  ItemsOfBytes no_items = Unit {0}
  ItemsOfBytes (item v vs) = OfBytes v × ItemsOfBytes vs

  PairsOfBytes : Pairs → Type 0
  PairsOfBytes no_pairs = Unit {0}
  PairsOfBytes (pair k v ps) = OfBytes v × PairsOfBytes ps

mutual
  packed-bytes : (v : Tree) (d p : ℕ) (bytes : List ℕ) → AreBytes bytes → Packs v d p bytes → OfBytes v
  packed-bytes (nil q) d p bytes are h = tt
  packed-bytes (flag q b) d p bytes are h = tt
  packed-bytes (int q z) d p bytes are h = tt
  packed-bytes (raw q s) d p bytes are h = bytes-rest h.1 s bytes h.3 are
  packed-bytes (array q vs) d p bytes are h = items-bytes vs (d + 1) (p + length h.2) h.3 (bytes-rest h.2 h.3 bytes h.5 are) h.6
  packed-bytes (pairs q ps) d p bytes are h = pairs-bytes ps (d + 1) (p + length h.2) h.3 (bytes-rest h.2 h.3 bytes h.5 are) h.6

  items-bytes : (vs : Items) (d p : ℕ) (bytes : List ℕ) → AreBytes bytes → PackItems vs d p bytes → ItemsOfBytes vs
  items-bytes no_items d p bytes are h = tt
  items-bytes (item v vs) d p bytes are h = (packed-bytes v d p h.0 (bytes-first h.0 h.1 bytes h.2 are) h.3, items-bytes vs d (p + length h.0) h.1 (bytes-rest h.0 h.1 bytes h.2 are) h.4)

  pairs-bytes : (ps : Pairs) (d p : ℕ) (bytes : List ℕ) → AreBytes bytes → PackPairs ps d p bytes → PairsOfBytes ps
  pairs-bytes no_pairs d p bytes are h = tt
  pairs-bytes (pair k v ps) d p bytes are h = (
    packed-bytes v d (p + length h.0) h.1 (bytes-back h.0 h.1 (bytes-first (h.0 ++ h.1) h.2 bytes h.3 are)) h.5,
    pairs-bytes ps d (p + length h.0 + length h.1) h.2 (bytes-rest (h.0 ++ h.1) h.2 bytes h.3 are) h.6,
  )

-- ---- the meanings of values

values-items : (vs : Items) → ItemsOfBytes vs → AllByRecursion OfBytes (item_list vs)
values-items no_items h = tt
values-items (item v vs) h = (h.0, values-items vs h.1)

values-of : (name : List ℕ) (ps : Pairs) → PairsOfBytes ps → AllByRecursion OfBytes (values_of name (pair_list ps))
values-of name no_pairs h = tt
values-of name (pair k v ps) h = by (is_key name k) (values-of name ps h.1)
  where
    by : (b : Bool) → AllByRecursion OfBytes (values_of name (pair_list ps)) → AllByRecursion OfBytes (cond b (v ∷ values_of name (pair_list ps)) (values_of name (pair_list ps)))
    by true rest = (h.0, rest)
    by false rest = rest

sole-of : {A : Type 0} (P : A → Type 0) (kind : Tree → Option A) → ((v : Tree) (x : A) → OfBytes v → kind v ≡ Some x → P x) → (vs : List Tree) (x : A) → AllByRecursion OfBytes vs → sole kind vs ≡ Some x → P x
sole-of P kind each [] x h e = each (nil 0) x tt e
sole-of P kind each (v ∷ []) x h e = each v x h.0 e
sole-of P kind each (v ∷ w ∷ vs) x h e = absurd (cc e)

field-of : {A : Type 0} (P : A → Type 0) (kind : Tree → Option A) → ((v : Tree) (x : A) → OfBytes v → kind v ≡ Some x → P x) → (name : List ℕ) (ps : Pairs) (x : A) → PairsOfBytes ps → field kind name (pair_list ps) ≡ Some x → P x
field-of P kind each name ps x h e = sole-of P kind each (values_of name (pair_list ps)) x (values-of name ps h) e

front-of : {A : Type 0} (P : A → Type 0) (o : Option A) (os : Option (List A)) (xs : List A) → ((x : A) → o ≡ Some x → P x) → ((ys : List A) → os ≡ Some ys → AllByRecursion P ys) → in_front o os ≡ Some xs → AllByRecursion P xs
front-of P None os xs one more e = absurd (cc e)
front-of P (Some x) None xs one more e = absurd (cc e)
front-of P (Some x) (Some ys) xs one more e = subst (AllByRecursion P) (same_Some (x ∷ ys) xs e) (one x refl, more ys refl)

all-of : {A : Type 0} (P : A → Type 0) (kind : Tree → Option A) → ((v : Tree) (x : A) → OfBytes v → kind v ≡ Some x → P x) → (vs : List Tree) (xs : List A) → AllByRecursion OfBytes vs → all kind vs ≡ Some xs → AllByRecursion P xs
all-of P kind each [] xs h e = subst (AllByRecursion P) (same_Some [] xs e) tt
all-of P kind each (v ∷ vs) xs h e = front-of P (kind v) (all kind vs) xs (λ x is. each v x h.0 is) (λ ys is. all-of P kind each vs ys h.1 is) e

list-of : {A : Type 0} (P : A → Type 0) (kind : Tree → Option A) → ((v : Tree) (x : A) → OfBytes v → kind v ≡ Some x → P x) → (v : Tree) (xs : List A) → OfBytes v → list kind v ≡ Some xs → AllByRecursion P xs
list-of P kind each (nil p) xs h e = subst (AllByRecursion P) (same_Some [] xs e) tt
list-of P kind each (flag p b) xs h e = absurd (cc e)
list-of P kind each (int p z) xs h e = absurd (cc e)
list-of P kind each (raw p s) xs h e = absurd (cc e)
list-of P kind each (array p vs) xs h e = all-of P kind each (item_list vs) xs (values-items vs h) e
list-of P kind each (pairs p ps) xs h e = absurd (cc e)

-- ---- texts, events and slots

text-of : (v : Tree) (s : List ℕ) → OfBytes v → text v ≡ Some s → AreBytes s
text-of (nil p) s h e = subst AreBytes (same_Some [] s e) no-bytes
text-of (flag p b) s h e = absurd (cc e)
text-of (int p z) s h e = absurd (cc e)
text-of (raw p t) s h e = subst AreBytes (same_Some t s e) h
text-of (array p vs) s h e = absurd (cc e)
text-of (pairs p ps) s h e = absurd (cc e)

event-of : (v : Tree) (x : EventBody) → OfBytes v → event_body v ≡ Some x → HasBytes x
event-of (nil p) x h e = subst HasBytes (same_Some (record { name = []; payload = [] }) x e) (record { name = no-bytes; payload = no-bytes })
event-of (flag p b) x h e = absurd (cc e)
event-of (int p z) x h e = absurd (cc e)
event-of (raw p s) x h e = absurd (cc e)
event-of (array p vs) x h e = absurd (cc e)
event-of (pairs p ps) x h e = by (raw_keys (pair_list ps)) e
  where
    by : (b : Bool) → cond b (both (λ n p. record { name = n; payload = p }) (field text (codes "Name") (pair_list ps)) (field text (codes "Payload") (pair_list ps))) None ≡ Some x → HasBytes x
    by true is =
        both_has HasBytes (λ n p. record { name = n; payload = p }) (field text (codes "Name") (pair_list ps)) (field text (codes "Payload") (pair_list ps)) x
        (λ n q named with. record { name = field-of AreBytes text text-of (codes "Name") ps n h named; payload = field-of AreBytes text text-of (codes "Payload") ps q h with }) is
    by false is = absurd (cc is)

slot-of : (v : Tree) (s : SlotContent) → OfBytes v → slot v ≡ Some s → SlotHasBytes s
slot-of (nil p) s h e = subst SlotHasBytes (same_Some empty s e) tt
slot-of (flag p b) s h e = absurd (cc e)
slot-of (int p z) s h e = absurd (cc e)
slot-of (raw p t) s h e = absurd (cc e)
slot-of (array p vs) s h e = absurd (cc e)
slot-of (pairs p ps) s h e = by (raw_keys (pair_list ps)) e
  where
    by : (b : Bool) → cond b (both held (field time (codes "LTime") (pair_list ps)) (field (list event_body) (codes "Events") (pair_list ps))) None ≡ Some s → SlotHasBytes s
    by true is =
        both_has SlotHasBytes held (field time (codes "LTime") (pair_list ps)) (field (list event_body) (codes "Events") (pair_list ps)) s
        (λ t es timed with. field-of (AllByRecursion HasBytes) (list event_body) (list-of HasBytes event_body event-of) (codes "Events") ps es h with) is
    by false is = absurd (cc is)

-- ---- messages

fields-of : (t : MessageType) (m : Message) (ps : Pairs) → PairsOfBytes ps → HasFields t m (pair_list ps) → EventsHaveBytes m
fields-of types.UserEvent (user_event e) ps are h = record { name = field-of AreBytes text text-of (codes "Name") ps e.name are h.name; payload = field-of AreBytes text text-of (codes "Payload") ps e.payload are h.payload }
fields-of types.Query (query q) ps are h = tt
fields-of types.QueryResponse (query_response r) ps are h = tt
fields-of types.PushPull (push_pull m) ps are h = field-of (AllByRecursion SlotHasBytes) (list slot) (list-of SlotHasBytes slot slot-of) (codes "Events") ps m.slots are h.slots
fields-of _ _ ps are h = absurd h

following-of : (class : Class) (kind : ℕ) (bytes : List ℕ) (m : Message) → AreBytes bytes → SpellsAfter class kind m bytes → EventsHaveBytes m
following-of (classes.Read message) kind bytes m are s = fields-of message m s.0 (packed-bytes (pairs 0 s.0) 0 0 bytes are s.1) s.2
following-of classes.Foreign kind bytes m are s = subst EventsHaveBytes (sym s) tt
following-of classes.Unknown kind bytes m are s = absurd s

spelled-of : (packet : List ℕ) (m : Message) → AreBytes packet → Spells m packet → EventsHaveBytes m
spelled-of [] m are s = absurd s
spelled-of (kind ∷ bytes) m are s = following-of (class_of kind) kind bytes m (λ i. are (suc i)) s

pub decoded_bytes : Below → (packet : List ℕ) (m : Message) → AreBytes packet → decoded packet ≡ Ok m → EventsHaveBytes m
decoded_bytes below packet m are e = spelled-of packet m are (decoded_spelled below packet m e)
