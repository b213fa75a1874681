-- Messages, slots and their events: from a map without errors to its fields, and back.
use Rattle.serf_wire.proofs.Names.{Bool, List, Option, Some, [], codes, false, refl, suc, sym, zero, ℕ, ℤ, ◌∙◌, ◌∷◌, ◌≡◌, max_clock, Tree, array, flag, int, nil, pairs, raw, errors_after, map_errors, value_errors, both, event_body, field, list, number, signed, slot, sole, status, text, time, truth, values_of, fields_of, kind_in, event_body_in, list_in, number_in, signed_in, slot_in, status_in, text_in, time_in, truth_in, value_of_key, PushPull, Query, QueryResponse, UserEvent, push_pull_in, query_in, response_in, SlotContent, empty, held, HasRawKeys, IsPushPull, IsQuery, IsQueryResponse, IsUserEvent, Kind, Layout, EventBody}
use Rattle.serf_wire.specs.declared.layout.Layout.TheVariants as layouts
use Rattle.serf_wire.specs.declared.layout.Kind.TheVariants as kinds
use Rattle.serf_wire.specs.Reading.{event_in}
use Rattle.serf_wire.proofs.Meanings.{IsExact, text_exact, truth_exact, number_exact, time_exact, signed_exact, list_exact, status_exact, map_exact, pairs_value, both_from}
use Rattle.serf_wire.proofs.Sound.{Pairs, first_is, first_sound, raw_keys, IsSole, clean, each_known}

nil_clean : (depth_left : ℕ) (k : Kind) (q : ℕ) → value_errors depth_left k (nil q) ≡ []
nil_clean zero kinds.Time q = refl
nil_clean zero (kinds.Natural max) q = refl
nil_clean zero kinds.Signed q = refl
nil_clean zero kinds.Text q = refl
nil_clean zero kinds.Flag q = refl
nil_clean zero kinds.Texts q = refl
nil_clean zero kinds.Status q = refl
nil_clean zero (kinds.Maps layout) q = refl
nil_clean (suc depth_left) kinds.Time q = refl
nil_clean (suc depth_left) (kinds.Natural max) q = refl
nil_clean (suc depth_left) kinds.Signed q = refl
nil_clean (suc depth_left) kinds.Text q = refl
nil_clean (suc depth_left) kinds.Flag q = refl
nil_clean (suc depth_left) kinds.Texts q = refl
nil_clean (suc depth_left) kinds.Status q = refl
nil_clean (suc depth_left) (kinds.Maps layout) q = refl

-- the field of this name, in a map without errors
pub field_there : {A : Type 0} (meaning : Tree → Option A) (value : Tree → A) (depth_left : ℕ) (k : Kind) → IsExact meaning value (value_errors depth_left k) → (layout : Layout) (name : List ℕ) → kind_in name (fields_of layout) ≡ Some k
    → (ps : Pairs) → errors_after (value_errors depth_left) layout [] ps ≡ [] → field meaning name ps ≡ Some (value (value_of_key name ps))
field_there meaning value depth_left k exact layout name known ps none =
    first_is (value_errors depth_left) layout name k known meaning [] ps none ∙ exact.there (value_of_key name ps) (first_sound (value_errors depth_left) layout name k known [] ps (nil_clean depth_left k) none)

-- a field that is there has at most one valid value
pub sole_there : {A : Type 0} (meaning : Tree → Option A) (value : Tree → A) (depth_left : ℕ) (k : Kind) → IsExact meaning value (value_errors depth_left k) → (vs : List Tree) (x : A) → sole meaning vs ≡ Some x → IsSole (value_errors depth_left) k false vs
sole_there meaning value depth_left k exact [] x e = tt
sole_there meaning value depth_left k exact (v ∷ []) x e = (exact.sound v x e, refl)
sole_there meaning value depth_left k exact (v ∷ w ∷ vs) x e = absurd cc

pub event_there : (ps : Pairs) → errors_after (value_errors 2) layouts.UserEvent [] ps ≡ [] → IsUserEvent (event_in ps) ps
event_there ps none = record {
  keys = raw_keys (value_errors 2) layouts.UserEvent [] ps none;
  time = field_there time time_in 2 kinds.Time time_exact layouts.UserEvent (codes "LTime") refl ps none;
  name = field_there text text_in 2 kinds.Text text_exact layouts.UserEvent (codes "Name") refl ps none;
  payload = field_there text text_in 2 kinds.Text text_exact layouts.UserEvent (codes "Payload") refl ps none;
  coalesce = field_there truth truth_in 2 kinds.Flag truth_exact layouts.UserEvent (codes "CC") refl ps none;
}

pub event_clean : (e : UserEvent) (ps : Pairs) → IsUserEvent e ps → errors_after (value_errors 2) layouts.UserEvent [] ps ≡ []
event_clean e ps h =
    clean (value_errors 2) layouts.UserEvent [] ps h.keys (each_known (λ n k. IsSole (value_errors 2) k false (values_of n ps)) (fields_of layouts.UserEvent)
    (sole_there time time_in 2 kinds.Time time_exact _ _ h.time, (sole_there text text_in 2 kinds.Text text_exact _ _ h.name, (sole_there text text_in 2 kinds.Text text_exact _ _ h.payload, (sole_there truth truth_in 2 kinds.Flag truth_exact _ _ h.coalesce, tt)))))

of_some : {A : Type 0} (x y : A) → Some x ≡ Some y → x ≡ y
of_some x y e = cc

same_event : (ps : Pairs) (d e : UserEvent) → IsUserEvent d ps → IsUserEvent e ps → d ≡ e
same_event ps d e h g =
    let make : ℕ → List ℕ → List ℕ → Bool → UserEvent = λ t n p c. record { time = t; name = n; payload = p; coalesce = c } in
    let time : d.time ≡ e.time = of_some _ _ (sym h.time ∙ g.time) in
    let name : d.name ≡ e.name = of_some _ _ (sym h.name ∙ g.name) in
    let payload : d.payload ≡ e.payload = of_some _ _ (sym h.payload ∙ g.payload) in
    let flag : d.coalesce ≡ e.coalesce = of_some _ _ (sym h.coalesce ∙ g.coalesce) in
    let all : make d.time d.name d.payload d.coalesce ≡ make e.time e.name e.payload e.coalesce = rw (time, name, payload, flag) refl in
    all

pub event_is : (e : UserEvent) (ps : Pairs) → IsUserEvent e ps → event_in ps ≡ e
event_is e ps h = same_event ps (event_in ps) e (event_there ps (event_clean e ps h)) h

-- ---- the events of a slot, and slots

abbrev event_with : List ℕ → List ℕ → EventBody
event_with n p = record { name = n; payload = p }

event_body_values : (v : Tree) → pairs_value (record { name = []; payload = [] }) (λ ps. event_with (text_in (value_of_key (codes "Name") ps)) (text_in (value_of_key (codes "Payload") ps))) v ≡ event_body_in v
event_body_values (nil p) = refl
event_body_values (flag p b) = refl
event_body_values (int p z) = refl
event_body_values (raw p s) = refl
event_body_values (array p vs) = refl
event_body_values (pairs p ps) = refl

slot_values : (v : Tree) → pairs_value empty (λ ps. held (time_in (value_of_key (codes "LTime") ps)) (list_in event_body_in (value_of_key (codes "Events") ps))) v ≡ slot_in v
slot_values (nil p) = refl
slot_values (flag p b) = refl
slot_values (int p z) = refl
slot_values (raw p s) = refl
slot_values (array p vs) = refl
slot_values (pairs p ps) = refl

event_there_in : (ps : Pairs) → errors_after (value_errors 0) layouts.Event [] ps ≡ [] → both (λ n p. event_with n p) (field text (codes "Name") ps) (field text (codes "Payload") ps) ≡ Some (event_with (text_in (value_of_key (codes "Name") ps)) (text_in (value_of_key (codes "Payload") ps)))
event_there_in ps none =
    rw (field_there text text_in 0 kinds.Text text_exact layouts.Event (codes "Name") refl ps none, field_there text text_in 0 kinds.Text text_exact layouts.Event (codes "Payload") refl ps none) refl

event_sound_in : (ps : Pairs) (x : EventBody) → HasRawKeys ps → both (λ n p. event_with n p) (field text (codes "Name") ps) (field text (codes "Payload") ps) ≡ Some x → errors_after (value_errors 0) layouts.Event [] ps ≡ []
event_sound_in ps x keys e =
    let b = both_from (λ n p. event_with n p) _ _ x e in
    clean (value_errors 0) layouts.Event [] ps keys (each_known (λ n k. IsSole (value_errors 0) k false (values_of n ps)) (fields_of layouts.Event)
    (sole_there text text_in 0 kinds.Text text_exact _ _ b.one_is, (sole_there text text_in 0 kinds.Text text_exact _ _ b.other_is, tt)))

pub event_body_exact : IsExact event_body event_body_in (map_errors (value_errors 0) layouts.Event)
event_body_exact = map_exact _ _ (value_errors 0) layouts.Event _ event_body_values event_there_in event_sound_in

slot_there_in : (ps : Pairs) → errors_after (value_errors 1) layouts.Slot [] ps ≡ [] → both held (field time (codes "LTime") ps) (field (list event_body) (codes "Events") ps) ≡ Some (held (time_in (value_of_key (codes "LTime") ps)) (list_in event_body_in (value_of_key (codes "Events") ps)))
slot_there_in ps none =
    rw (field_there time time_in 1 kinds.Time time_exact layouts.Slot (codes "LTime") refl ps none, field_there (list event_body) (list_in event_body_in) 1 (kinds.Maps layouts.Event) (list_exact _ _ _ event_body_exact) layouts.Slot (codes "Events") refl ps none) refl

slot_sound_in : (ps : Pairs) (x : SlotContent) → HasRawKeys ps → both held (field time (codes "LTime") ps) (field (list event_body) (codes "Events") ps) ≡ Some x → errors_after (value_errors 1) layouts.Slot [] ps ≡ []
slot_sound_in ps x keys e =
    let b = both_from held _ _ x e in
    clean (value_errors 1) layouts.Slot [] ps keys (each_known (λ n k. IsSole (value_errors 1) k false (values_of n ps)) (fields_of layouts.Slot)
    (sole_there time time_in 1 kinds.Time time_exact _ _ b.one_is, (sole_there (list event_body) (list_in event_body_in) 1 (kinds.Maps layouts.Event) (list_exact _ _ _ event_body_exact) _ _ b.other_is, tt)))

pub events_exact : IsExact (list event_body) (list_in event_body_in) (value_errors 1 (kinds.Maps layouts.Event))
events_exact = list_exact _ _ _ event_body_exact

pub slot_exact : IsExact slot slot_in (map_errors (value_errors 1) layouts.Slot)
slot_exact = map_exact _ _ (value_errors 1) layouts.Slot _ slot_values slot_there_in slot_sound_in

pub slots_exact : IsExact (list slot) (list_in slot_in) (value_errors 2 (kinds.Maps layouts.Slot))
slots_exact = list_exact _ _ _ slot_exact

-- ---- queries

pub texts_exact : IsExact (list text) (list_in text_in) (value_errors 2 kinds.Texts)
texts_exact = list_exact _ _ _ text_exact

pub query_there : (ps : Pairs) → errors_after (value_errors 2) layouts.Query [] ps ≡ [] → IsQuery (query_in ps) ps
query_there ps none = record {
  keys = raw_keys (value_errors 2) layouts.Query [] ps none;
  time = field_there time time_in 2 kinds.Time time_exact layouts.Query (codes "LTime") refl ps none;
  id = field_there (number 0xffff_ffff) (number_in 0xffff_ffff) 2 (kinds.Natural 0xffff_ffff) (number_exact 0xffff_ffff) layouts.Query (codes "ID") refl ps none;
  addr = field_there text text_in 2 kinds.Text text_exact layouts.Query (codes "Addr") refl ps none;
  port = field_there (number 0xffff) (number_in 0xffff) 2 (kinds.Natural 0xffff) (number_exact 0xffff) layouts.Query (codes "Port") refl ps none;
  source = field_there text text_in 2 kinds.Text text_exact layouts.Query (codes "SourceNode") refl ps none;
  filters = field_there (list text) (list_in text_in) 2 kinds.Texts texts_exact layouts.Query (codes "Filters") refl ps none;
  flags = field_there (number 0xffff_ffff) (number_in 0xffff_ffff) 2 (kinds.Natural 0xffff_ffff) (number_exact 0xffff_ffff) layouts.Query (codes "Flags") refl ps none;
  relay_factor = field_there (number 0xff) (number_in 0xff) 2 (kinds.Natural 0xff) (number_exact 0xff) layouts.Query (codes "RelayFactor") refl ps none;
  timeout = field_there signed signed_in 2 kinds.Signed signed_exact layouts.Query (codes "Timeout") refl ps none;
  name = field_there text text_in 2 kinds.Text text_exact layouts.Query (codes "Name") refl ps none;
  payload = field_there text text_in 2 kinds.Text text_exact layouts.Query (codes "Payload") refl ps none;
}

pub query_clean : (q : Query) (ps : Pairs) → IsQuery q ps → errors_after (value_errors 2) layouts.Query [] ps ≡ []
query_clean q ps h =
    clean (value_errors 2) layouts.Query [] ps h.keys (each_known (λ n k. IsSole (value_errors 2) k false (values_of n ps)) (fields_of layouts.Query)
    (sole_there time time_in 2 kinds.Time time_exact _ _ h.time, (sole_there (number 0xffff_ffff) (number_in 0xffff_ffff) 2 (kinds.Natural 0xffff_ffff) (number_exact 0xffff_ffff) _ _ h.id, (sole_there text text_in 2 kinds.Text text_exact _ _ h.addr, (sole_there (number 0xffff) (number_in 0xffff) 2 (kinds.Natural 0xffff) (number_exact 0xffff) _ _ h.port, (sole_there text text_in 2 kinds.Text text_exact _ _ h.source, (sole_there (list text) (list_in text_in) 2 kinds.Texts texts_exact _ _ h.filters, (sole_there (number 0xffff_ffff) (number_in 0xffff_ffff) 2 (kinds.Natural 0xffff_ffff) (number_exact 0xffff_ffff) _ _ h.flags, (sole_there (number 0xff) (number_in 0xff) 2 (kinds.Natural 0xff) (number_exact 0xff) _ _ h.relay_factor, (sole_there signed signed_in 2 kinds.Signed signed_exact _ _ h.timeout, (sole_there text text_in 2 kinds.Text text_exact _ _ h.name, (sole_there text text_in 2 kinds.Text text_exact _ _ h.payload, tt))))))))))))

same_query : (ps : Pairs) (d e : Query) → IsQuery d ps → IsQuery e ps → d ≡ e
same_query ps d e h g =
    let make : ℕ → ℕ → List ℕ → ℕ → List ℕ → List (List ℕ) → ℕ → ℕ → ℤ → List ℕ → List ℕ → Query = λ a b c d e f g h i j k. record { time = a; id = b; addr = c; port = d; source = e; filters = f; flags = g; relay_factor = h; timeout = i; name = j; payload = k } in
    let p0 : d.time ≡ e.time = of_some _ _ (sym h.time ∙ g.time) in
    let p1 : d.id ≡ e.id = of_some _ _ (sym h.id ∙ g.id) in
    let p2 : d.addr ≡ e.addr = of_some _ _ (sym h.addr ∙ g.addr) in
    let p3 : d.port ≡ e.port = of_some _ _ (sym h.port ∙ g.port) in
    let p4 : d.source ≡ e.source = of_some _ _ (sym h.source ∙ g.source) in
    let p5 : d.filters ≡ e.filters = of_some _ _ (sym h.filters ∙ g.filters) in
    let p6 : d.flags ≡ e.flags = of_some _ _ (sym h.flags ∙ g.flags) in
    let p7 : d.relay_factor ≡ e.relay_factor = of_some _ _ (sym h.relay_factor ∙ g.relay_factor) in
    let p8 : d.timeout ≡ e.timeout = of_some _ _ (sym h.timeout ∙ g.timeout) in
    let p9 : d.name ≡ e.name = of_some _ _ (sym h.name ∙ g.name) in
    let p10 : d.payload ≡ e.payload = of_some _ _ (sym h.payload ∙ g.payload) in
    let all : make d.time d.id d.addr d.port d.source d.filters d.flags d.relay_factor d.timeout d.name d.payload ≡ make e.time e.id e.addr e.port e.source e.filters e.flags e.relay_factor e.timeout e.name e.payload = rw (p0, p1, p2, p3, p4, p5, p6, p7, p8, p9, p10) refl in
    all

pub query_is : (q : Query) (ps : Pairs) → IsQuery q ps → query_in ps ≡ q
query_is q ps h = same_query ps (query_in ps) q (query_there ps (query_clean q ps h)) h

-- ---- responses

pub response_there : (ps : Pairs) → errors_after (value_errors 2) layouts.QueryResponse [] ps ≡ [] → IsQueryResponse (response_in ps) ps
response_there ps none = record {
  keys = raw_keys (value_errors 2) layouts.QueryResponse [] ps none;
  time = field_there (number max_clock) (number_in max_clock) 2 (kinds.Natural max_clock) (number_exact max_clock) layouts.QueryResponse (codes "LTime") refl ps none;
  id = field_there (number 0xffff_ffff) (number_in 0xffff_ffff) 2 (kinds.Natural 0xffff_ffff) (number_exact 0xffff_ffff) layouts.QueryResponse (codes "ID") refl ps none;
  from = field_there text text_in 2 kinds.Text text_exact layouts.QueryResponse (codes "From") refl ps none;
  flags = field_there (number 0xffff_ffff) (number_in 0xffff_ffff) 2 (kinds.Natural 0xffff_ffff) (number_exact 0xffff_ffff) layouts.QueryResponse (codes "Flags") refl ps none;
  payload = field_there text text_in 2 kinds.Text text_exact layouts.QueryResponse (codes "Payload") refl ps none;
}

pub response_clean : (r : QueryResponse) (ps : Pairs) → IsQueryResponse r ps → errors_after (value_errors 2) layouts.QueryResponse [] ps ≡ []
response_clean r ps h =
    clean (value_errors 2) layouts.QueryResponse [] ps h.keys (each_known (λ n k. IsSole (value_errors 2) k false (values_of n ps)) (fields_of layouts.QueryResponse)
    (sole_there (number max_clock) (number_in max_clock) 2 (kinds.Natural max_clock) (number_exact max_clock) _ _ h.time, (sole_there (number 0xffff_ffff) (number_in 0xffff_ffff) 2 (kinds.Natural 0xffff_ffff) (number_exact 0xffff_ffff) _ _ h.id, (sole_there text text_in 2 kinds.Text text_exact _ _ h.from, (sole_there (number 0xffff_ffff) (number_in 0xffff_ffff) 2 (kinds.Natural 0xffff_ffff) (number_exact 0xffff_ffff) _ _ h.flags, (sole_there text text_in 2 kinds.Text text_exact _ _ h.payload, tt))))))

same_response : (ps : Pairs) (d e : QueryResponse) → IsQueryResponse d ps → IsQueryResponse e ps → d ≡ e
same_response ps d e h g =
    let make : ℕ → ℕ → List ℕ → ℕ → List ℕ → QueryResponse = λ a b c d e. record { time = a; id = b; from = c; flags = d; payload = e } in
    let p0 : d.time ≡ e.time = of_some _ _ (sym h.time ∙ g.time) in
    let p1 : d.id ≡ e.id = of_some _ _ (sym h.id ∙ g.id) in
    let p2 : d.from ≡ e.from = of_some _ _ (sym h.from ∙ g.from) in
    let p3 : d.flags ≡ e.flags = of_some _ _ (sym h.flags ∙ g.flags) in
    let p4 : d.payload ≡ e.payload = of_some _ _ (sym h.payload ∙ g.payload) in
    let all : make d.time d.id d.from d.flags d.payload ≡ make e.time e.id e.from e.flags e.payload = rw (p0, p1, p2, p3, p4) refl in
    all

pub response_is : (r : QueryResponse) (ps : Pairs) → IsQueryResponse r ps → response_in ps ≡ r
response_is r ps h = same_response ps (response_in ps) r (response_there ps (response_clean r ps h)) h

-- ---- push/pulls

pub push_pull_there : (ps : Pairs) → errors_after (value_errors 2) layouts.PushPull [] ps ≡ [] → IsPushPull (push_pull_in ps) ps
push_pull_there ps none = record {
  keys = raw_keys (value_errors 2) layouts.PushPull [] ps none;
  member_clock = field_there (number max_clock) (number_in max_clock) 2 (kinds.Natural max_clock) (number_exact max_clock) layouts.PushPull (codes "LTime") refl ps none;
  status = field_there status status_in 2 kinds.Status status_exact layouts.PushPull (codes "StatusLTimes") refl ps none;
  left = field_there (list text) (list_in text_in) 2 kinds.Texts texts_exact layouts.PushPull (codes "LeftMembers") refl ps none;
  event_clock = field_there (number max_clock) (number_in max_clock) 2 (kinds.Natural max_clock) (number_exact max_clock) layouts.PushPull (codes "EventLTime") refl ps none;
  slots = field_there (list slot) (list_in slot_in) 2 (kinds.Maps layouts.Slot) slots_exact layouts.PushPull (codes "Events") refl ps none;
  query_clock = field_there (number max_clock) (number_in max_clock) 2 (kinds.Natural max_clock) (number_exact max_clock) layouts.PushPull (codes "QueryLTime") refl ps none;
}

pub push_pull_clean : (q : PushPull) (ps : Pairs) → IsPushPull q ps → errors_after (value_errors 2) layouts.PushPull [] ps ≡ []
push_pull_clean q ps h =
    clean (value_errors 2) layouts.PushPull [] ps h.keys (each_known (λ n k. IsSole (value_errors 2) k false (values_of n ps)) (fields_of layouts.PushPull)
    (sole_there (number max_clock) (number_in max_clock) 2 (kinds.Natural max_clock) (number_exact max_clock) _ _ h.member_clock, (sole_there status status_in 2 kinds.Status status_exact _ _ h.status, (sole_there (list text) (list_in text_in) 2 kinds.Texts texts_exact _ _ h.left, (sole_there (number max_clock) (number_in max_clock) 2 (kinds.Natural max_clock) (number_exact max_clock) _ _ h.event_clock, (sole_there (list slot) (list_in slot_in) 2 (kinds.Maps layouts.Slot) slots_exact _ _ h.slots, (sole_there (number max_clock) (number_in max_clock) 2 (kinds.Natural max_clock) (number_exact max_clock) _ _ h.query_clock, tt)))))))

same_push_pull : (ps : Pairs) (d e : PushPull) → IsPushPull d ps → IsPushPull e ps → d ≡ e
same_push_pull ps d e h g =
    let make : ℕ → List (List ℕ × ℕ) → List (List ℕ) → ℕ → List SlotContent → ℕ → PushPull = λ a b c d e f. record { member_clock = a; status = b; left = c; event_clock = d; slots = e; query_clock = f } in
    let p0 : d.member_clock ≡ e.member_clock = of_some _ _ (sym h.member_clock ∙ g.member_clock) in
    let p1 : d.status ≡ e.status = of_some _ _ (sym h.status ∙ g.status) in
    let p2 : d.left ≡ e.left = of_some _ _ (sym h.left ∙ g.left) in
    let p3 : d.event_clock ≡ e.event_clock = of_some _ _ (sym h.event_clock ∙ g.event_clock) in
    let p4 : d.slots ≡ e.slots = of_some _ _ (sym h.slots ∙ g.slots) in
    let p5 : d.query_clock ≡ e.query_clock = of_some _ _ (sym h.query_clock ∙ g.query_clock) in
    let all : make d.member_clock d.status d.left d.event_clock d.slots d.query_clock ≡ make e.member_clock e.status e.left e.event_clock e.slots e.query_clock = rw (p0, p1, p2, p3, p4, p5) refl in
    all

pub push_pull_is : (q : PushPull) (ps : Pairs) → IsPushPull q ps → push_pull_in ps ≡ q
push_pull_is q ps h = same_push_pull ps (push_pull_in ps) q (push_pull_there ps (push_pull_clean q ps h)) h
