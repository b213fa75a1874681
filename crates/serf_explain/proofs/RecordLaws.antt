-- The events that were handed out, and the lines that show it.
use Rattle.serf_explain.proofs.Names.{Bool, List, None, Option, Some, [], ap, append-nil, append_assoc, ap₂, arith, cond, false, inl, inr, length, map, refl, subst, suc, sym, true, zero, ℕ, ◌&&◌, ◌++◌, ◌+◌, ◌<◌, ◌==◌, ◌||◌, ◌∙◌, ◌∷◌, ◌≡◌, ◌⊎◌, or-true, cases_Bool, list_any-append, slice_get-map, bytes_eq-Decides, find, flat_map, list_any, option_map, Contains, slice_get, slice_index_or, bytes_eq, EventBody, event_of, same_texts, TimedEntry, IdealAgent, Config, Seen, Cluster, IdealNode, keeps, Turn, event_in, events_to, Action, EventLine, Line, IsViewed, NodeState, WorldState, node_of, IsSeenIn, Known, entered_since, OfIgnored, IsKnown, IsNamed, IsRecorded, Record, RecordedAt, is_record, is_recorded, name_at, name_stored, record_in, record_of, records_from, records_in, stands_at, handed_words, HandsOut, IsHanded, IsSeen, OfSeen, hands_out, is_hand_out, name_in, name_or_empty, tailed_words, seen_words, quoted, event_words, Delivery, History}
use Rattle.std.proofs.Common.{eq-eqb}
use Rattle.std.specs.List.{filter}
use Rattle.std.specs.Prelude.{codes, decimal}

-- the records after one more line
pub lines-push : (n : ℕ) (lines : List Line) (line : Line) → records_from n (lines ++ line ∷ []) ≡ records_from n lines ++ map (record_of (n + length lines)) line.events
lines-push n [] line = append-nil (map (record_of n) line.events) ∙ ap (λ m. map (record_of m) line.events) (let none : n ≡ n + 0 = omega arith in none)
lines-push n (x ∷ xs) line =
    let later : n + 1 + length xs ≡ n + length (x ∷ xs) = omega arith in
    ap (λ (t : List Record). map (record_of n) x.events ++ t) (lines-push (n + 1) xs line ∙ ap (λ m. records_from (n + 1) xs ++ map (record_of m) line.events) later)
    ∙ sym (append_assoc (map (record_of n) x.events) (records_from (n + 1) xs) (map (record_of (n + length (x ∷ xs))) line.events))

and-true-both : (x y : Bool) → x ≡ true → y ≡ true → (x && y) ≡ true
and-true-both x y h k = rw h k

-- the delivery at this index
pub recorded-at : (outs : List Delivery) (place a time : ℕ) (what : EventBody) (h : Delivery) → slice_get outs place ≡ Some h → is_record a time what (record_in h) ≡ true → RecordedAt (records_in outs) h.action a time what
recorded-at outs place a time what h at is = record {
  place = place;
  record_turn = record_in h;
  at = slice_get-map record_in outs place ∙ ap (λ (o : Option Delivery). option_map record_in o) at;
  action_is = refl;
  hands = is;
}

-- whether this delivery handed this event to this agent
pub stands-out : (outs : List Delivery) (place a time : ℕ) (what : EventBody) (o : Option Delivery) → slice_get outs place ≡ o → stands_at (records_in outs) place a time what ≡ is_recorded a time what (option_map record_in o)
stands-out outs place a time what o at = ap (is_recorded a time what) (slice_get-map record_in outs place ∙ ap (λ (x : Option Delivery). option_map record_in x) at)

module _ (a time : ℕ) (what : EventBody) where
  -- the first delivery of this event to this agent, or none
  pub first-recorded : (outs : List Delivery) (h : Delivery) → find (λ (o : Delivery). is_record a time what (record_in o)) outs ≡ Some h → RecordedAt (records_in outs) h.action a time what
  first-recorded [] h e = absurd (cc e)
  first-recorded (x ∷ xs) h e = elim (cases_Bool (is_record a time what (record_in x))) [
    | inl is ↦ (let same : x ≡ h = cc (rw is at e) in subst (λ (o : Delivery). RecordedAt (records_in (x ∷ xs)) o.action a time what) same (recorded-at (x ∷ xs) 0 a time what x refl is))
    | inr other ↦ (let following = first-recorded xs h (rw other at e) in record { place = suc following.place; record_turn = following.record_turn; at = following.at; action_is = following.action_is; hands = following.hands })
  ]

  pub none-recorded : (outs : List Delivery) → find (λ (o : Delivery). is_record a time what (record_in o)) outs ≡ None → list_any (is_record a time what) (records_in outs) ≡ false
  none-recorded [] e = refl
  none-recorded (x ∷ xs) e = elim (cases_Bool (is_record a time what (record_in x))) [
    | inl is ↦ absurd (cc (rw is at e))
    | inr other ↦ rw other (none-recorded xs (rw other at e))
  ]

  -- a line that hands out the event of a record
  record Found (n : ℕ) (lines : List Line) (record_turn : Record) : Type 0 where
    k : ℕ
    action_is : record_turn.action ≡ n + k
    hands : HandsOut lines k a time what

  -- the record is that of an event of this line, or one of the records after it
  among : (n : ℕ) (es : List EventLine) (rest : List Record) (place : ℕ) (record_turn : Record) (Q : Type 0) → slice_get (map (record_of n) es ++ rest) place ≡ Some record_turn → is_record a time what record_turn ≡ true
      → (record_turn.action ≡ n → list_any (is_hand_out a time what) es ≡ true → Q) → ((q : ℕ) → slice_get rest q ≡ Some record_turn → Q) → Q
  among n [] rest place record_turn Q at is here there = there place at
  among n (e ∷ es) rest zero record_turn Q at is here there =
      let same : record_of n e ≡ record_turn = cc (at) in
      let hands : is_hand_out a time what e ≡ true = ap (λ (m : Record). is_record a time what m) same ∙ is in
      here (sym (ap (λ (m : Record). m.action) same)) (ap (λ b. b || list_any (is_hand_out a time what) es) hands)
  among n (e ∷ es) rest (suc place) record_turn Q at is here there =
      among n es rest place record_turn Q at is
      (λ act any. here act (elim (cases_Bool (is_hand_out a time what e)) [ inl here ↦ ap (λ b. b || list_any (is_hand_out a time what) es) here | inr apart ↦ ap (λ b. b || list_any (is_hand_out a time what) es) apart ∙ any ]))
      there

  line-of : (n : ℕ) (lines : List Line) (place : ℕ) (record_turn : Record) → slice_get (records_from n lines) place ≡ Some record_turn → is_record a time what record_turn ≡ true → Found n lines record_turn
  line-of n [] place record_turn at is = absurd (cc (at))
  line-of n (line ∷ lines) place record_turn at is =
      among n line.events (records_from (n + 1) lines) place record_turn (Found n (line ∷ lines) record_turn) at is
      (λ act any. record { k = 0; action_is = omega (arith, act); hands = record { line = line; at = refl; hands = any } })
      (λ q following.
      let h = line-of (n + 1) lines q record_turn following is in
      record { k = suc h.k; action_is = omega (arith, h.action_is); hands = record { line = h.hands.line; at = h.hands.at; hands = h.hands.hands } })

  any-of : (n : ℕ) (es : List EventLine) → list_any (is_record a time what) (map (record_of n) es) ≡ list_any (is_hand_out a time what) es
  any-of n [] = refl
  any-of n (e ∷ es) = ap (λ b. is_hand_out a time what e || b) (any-of n es)

  words-of : (name : List ℕ) (n k : ℕ) → n ≡ 1 + k → handed_words name time what (Some n) ≡ seen_words name time what k
  unfolding handed_words seen_words
  words-of name n k is =
      let one : n ≡ k + 1 = omega (arith, is) in
      ap (λ m. quoted name ++ codes " was handed " ++ event_words time what ++ codes " at action " ++ decimal m) one

  none-of : (name : List ℕ) → handed_words name time what None ≡ tailed_words name time what
  unfolding handed_words
  none-of name = refl

  any-lines : (n : ℕ) (lines : List Line) → list_any (is_record a time what) (records_from n lines) ≡ list_any (hands_out a time what) lines
  any-lines n [] = refl
  any-lines n (line ∷ lines) =
      list_any-append (is_record a time what) (map (record_of n) line.events) (records_from (n + 1) lines)
      ∙ ap₂ (λ (x y : Bool). x || y) (any-of n line.events) (any-lines (n + 1) lines)

  pub is-handed : (lines : List Line) (name : List ℕ) (n : ℕ) → RecordedAt (records_from 1 lines) n a time what → IsHanded lines name a time what (handed_words name time what (Some n))
  is-handed lines name n h =
      let found = line-of 1 lines h.place h.record_turn h.at h.hands in
      record { action = found.k; delivery = found.hands; words = words-of name n found.k (sym h.action_is ∙ found.action_is) }

  -- if no earlier action handed an event to the agent, the agent's settings keep events
  is-seen : (lines : List Line) (keeps_events : Bool) (name : List ℕ) (handed : Option ℕ) → (list_any (is_record a time what) (records_from 1 lines) ≡ true) ⊎ (keeps_events ≡ true)
      → IsRecorded (records_from 1 lines) a time what handed → IsSeen lines keeps_events name a time what (handed_words name time what handed)
  is-seen lines keeps_events name (Some n) known h = inl (is-handed lines name n h.right)
  is-seen lines keeps_events name None known h = inr record {
    kept = elim known [
      | inl there ↦ (let both : true ≡ false = sym there ∙ h.none refl in absurd (cc both))
      | inr kept ↦ kept
    ];
    none = sym (any-lines 1 lines) ∙ h.none refl;
    words = none-of name;
  }

  -- the same for an event that was seen in a merge
  pub is-seen-in : (k : Known) (i : IdealAgent) (number : ℕ) (handed : Option ℕ) → k.agent ≡ a → number ≡ length k.lines + 1 → IsNamed (records_from 1 k.lines) number a time what (entered_since k.entered i (record { time = time; key = what })) handed
      → IsSeenIn k i (record { time = time; key = what }) (handed_words i.config.name time what handed)
  is-seen-in k i number None mine count h = inr (inr (h.none refl, none-of i.config.name))
  is-seen-in k i number (Some n) mine count h = elim h.right [
    | inl recorded ↦ inl (subst (λ (b : ℕ). IsHanded k.lines i.config.name b time what (handed_words i.config.name time what (Some n))) (sym mine) (is-handed k.lines i.config.name n recorded))
    | inr now ↦ inr (inl (now.1, words-of i.config.name n (length k.lines) (let is = now.0 in omega (arith, is, count))))
  ]

  -- what an agent was handed is among the records
  any-from : (n : ℕ) (turns : List Turn) → list_any (is_record a time what) (records_from n (map (λ (t : Turn). t.line) turns)) ≡ list_any (is_hand_out a time what) (flat_map (λ (t : Turn). t.line.events) turns)
  any-from n [] = refl
  any-from n (turn ∷ turns) =
      let es : List EventLine = turn.line.events in
      let rest : List EventLine = flat_map (λ (t : Turn). t.line.events) turns in
      list_any-append (is_record a time what) (map (record_of n) es) (records_from (n + 1) (map (λ (t : Turn). t.line) turns))
      ∙ ap₂ (λ (x y : Bool). x || y) (any-of n es) (any-from (n + 1) turns)
      ∙ sym (list_any-append (is_hand_out a time what) es rest)

  abbrev wanted : TimedEntry EventBody
  wanted = record { time = time; key = what }

  abbrev lines_mine : List EventLine → List EventLine
  lines_mine es = filter (λ (e : EventLine). e.agent == a) es

  abbrev events_mine : List EventLine → List (TimedEntry EventBody)
  events_mine es = map event_in (lines_mine es)

  handed-here : (e : EventLine) → (e.agent == a) ≡ true → event_in e ≡ wanted → is_hand_out a time what e ≡ true
  handed-here e own same =
      let key : EventBody = event_of e.name e.payload in
      let texts : same_texts key key ≡ true = and-true-both (bytes_eq e.name e.name) (bytes_eq e.payload e.payload) ((bytes_eq-Decides e.name e.name).1 refl) ((bytes_eq-Decides e.payload e.payload).1 refl) in
      subst (λ (x : TimedEntry EventBody). ((e.agent == a) && ((e.time == x.time) && same_texts key x.key)) ≡ true) same
      (and-true-both (e.agent == a) ((e.time == e.time) && same_texts key key) own (and-true-both (e.time == e.time) (same_texts key key) (eq-eqb e.time e.time refl) texts))

  handed-among : (es : List EventLine) → Contains (events_mine es) wanted → list_any (is_hand_out a time what) es ≡ true
  handed-among [] h = absurd (omega (arith, h.1))
  handed-among (e ∷ es) h = by (e.agent == a) refl h (handed-among es)
    where
      later : list_any (is_hand_out a time what) es ≡ true → (is_hand_out a time what e || list_any (is_hand_out a time what) es) ≡ true
      later any = ap (λ b. is_hand_out a time what e || b) any ∙ or-true (is_hand_out a time what e)

      at : (k : ℕ) → (e.agent == a) ≡ true → k < suc (length (events_mine es)) → slice_index_or (event_in e ∷ events_mine es) k wanted ≡ wanted → (Contains (events_mine es) wanted → list_any (is_hand_out a time what) es ≡ true)
          → (is_hand_out a time what e || list_any (is_hand_out a time what) es) ≡ true
      at zero own inside is following = ap (λ b. b || list_any (is_hand_out a time what) es) (handed-here e own is)
      at (suc k) own inside is following = later (following (k, omega (arith, inside), is))

      by : (b : Bool) → (e.agent == a) ≡ b → Contains (map event_in (cond b (e ∷ lines_mine es) (lines_mine es))) wanted → (Contains (events_mine es) wanted → list_any (is_hand_out a time what) es ≡ true)
          → (is_hand_out a time what e || list_any (is_hand_out a time what) es) ≡ true
      by true own k following = at k.0 own k.1 k.2 following
      by false other k following = later (following k)

  pub handed-recorded : (n : ℕ) (turns : List Turn) → Contains (events_to a turns) wanted → list_any (is_record a time what) (records_from n (map (λ (t : Turn). t.line) turns)) ≡ true
  handed-recorded n turns h = any-from n turns ∙ handed-among (flat_map (λ (t : Turn). t.line.events) turns) h

-- the name that a world stores for an agent is its name in the cluster
name-same : (node : Option IdealNode) → name_stored (option_map (λ (s : NodeState). s.concrete) (option_map node_of node)) ≡ name_or_empty node
name-same None = refl
name-same (Some node) = refl

names-same : (c : Cluster) (w : WorldState) (a : ℕ) → IsViewed c w → name_at w a ≡ name_in c a
names-same c w a h =
    ap (λ (ns : List NodeState). name_stored (option_map (λ (s : NodeState). s.concrete) (slice_get ns a))) (sym h.nodes)
    ∙ ap (λ (o : Option NodeState). name_stored (option_map (λ (s : NodeState). s.concrete) o)) (slice_get-map node_of c.nodes a)
    ∙ name-same (slice_get c.nodes a)

-- a reason that names a delivery names a line of the trace
pub of-seen : (configs : List Config) (lines : List Line) (past : History) (n : ℕ) (c : Cluster) (w : WorldState) (action : Action) (reasons : List (List ℕ)) → IsViewed c w → records_in past.deliveries.outs.items ≡ records_from 1 lines
    → IsKnown configs (records_from 1 lines) w.sent action → OfIgnored Seen past n w action reasons → OfSeen configs lines w.sent c action reasons
of-seen configs lines past n c w action reasons view records known h = λ a e is.
    let k = h a e is in
    let named = k.2.seen refl in
    let recorded = subst (λ (ns : List Record). IsRecorded ns a e.time e.key named.0) records named.1 in
    let says = is-seen a e.time e.key lines (keeps (slice_get configs a)) (name_in c a) named.0 (known a e is) recorded in
    let words : handed_words (name_in c a) e.time e.key named.0 ≡ k.0 = ap (λ (name : List ℕ). handed_words name e.time e.key named.0) (sym (names-same c w a view)) ∙ sym named.2 in
    (k.0, k.1, subst (λ (t : List ℕ). IsSeen lines (keeps (slice_get configs a)) (name_in c a) a e.time e.key t) words says)
