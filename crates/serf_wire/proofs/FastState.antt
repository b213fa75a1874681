-- States that are maps in compact spellings.
use Rattle.serf_wire.proofs.Names.{List, None, Some, [], append-nil, codes, refl, subst, sym, ℕ, ◌++◌, ◌+◌, ◌<◌, ◌∙◌, ◌∷◌, ◌≡◌, option_map, max_clock, PackPairs, Tree, raw, IsReadSoFar, IsStateSoFar, found_state, list, number, slot, status, text, slots_left, status_left, texts_left, PushPull, push_pull, SpellsMap, StateFields, SlotViews, StatusTimes, Texts}
use Rattle.serf_wire.specs.declared.layout.MessageType.TheVariants as types
use Rattle.serf_wire.proofs.FastPairs.{keys_push, kept, added, sole_shown, map_packs}

pub finds_member : (old : StateFields) (x : ℕ) → old.member_clock ≡ None → (p : ℕ) (v : Tree) (ps : List (Tree × Tree)) → number max_clock v ≡ Some x → IsStateSoFar old ps → IsStateSoFar (record old { member_clock = Some x }) (ps ++ (raw p (codes "LTime"), v) ∷ [])
finds_member old x none p v ps means s = record {
  keys = keys_push ps p (codes "LTime") v s.keys;
  member_clock = added (number max_clock) old.member_clock x (codes "LTime") ps (raw p (codes "LTime")) v refl none means s.member_clock;
  status = kept status (option_map status_left old.status) (codes "StatusLTimes") ps (raw p (codes "LTime")) v refl s.status;
  left = kept (list text) (option_map texts_left old.left) (codes "LeftMembers") ps (raw p (codes "LTime")) v refl s.left;
  event_clock = kept (number max_clock) old.event_clock (codes "EventLTime") ps (raw p (codes "LTime")) v refl s.event_clock;
  slots = kept (list slot) (option_map slots_left old.slots) (codes "Events") ps (raw p (codes "LTime")) v refl s.slots;
  query_clock = kept (number max_clock) old.query_clock (codes "QueryLTime") ps (raw p (codes "LTime")) v refl s.query_clock;
}

pub finds_status : (old : StateFields) (x : StatusTimes) → option_map status_left old.status ≡ None → (p : ℕ) (v : Tree) (ps : List (Tree × Tree)) → status v ≡ Some (status_left x) → IsStateSoFar old ps → IsStateSoFar (record old { status = Some x }) (ps ++ (raw p (codes "StatusLTimes"), v) ∷ [])
finds_status old x none p v ps means s = record {
  keys = keys_push ps p (codes "StatusLTimes") v s.keys;
  member_clock = kept (number max_clock) old.member_clock (codes "LTime") ps (raw p (codes "StatusLTimes")) v refl s.member_clock;
  status = added status (option_map status_left old.status) (status_left x) (codes "StatusLTimes") ps (raw p (codes "StatusLTimes")) v refl none means s.status;
  left = kept (list text) (option_map texts_left old.left) (codes "LeftMembers") ps (raw p (codes "StatusLTimes")) v refl s.left;
  event_clock = kept (number max_clock) old.event_clock (codes "EventLTime") ps (raw p (codes "StatusLTimes")) v refl s.event_clock;
  slots = kept (list slot) (option_map slots_left old.slots) (codes "Events") ps (raw p (codes "StatusLTimes")) v refl s.slots;
  query_clock = kept (number max_clock) old.query_clock (codes "QueryLTime") ps (raw p (codes "StatusLTimes")) v refl s.query_clock;
}

pub finds_left : (old : StateFields) (x : Texts) → option_map texts_left old.left ≡ None → (p : ℕ) (v : Tree) (ps : List (Tree × Tree)) → list text v ≡ Some (texts_left x) → IsStateSoFar old ps → IsStateSoFar (record old { left = Some x }) (ps ++ (raw p (codes "LeftMembers"), v) ∷ [])
finds_left old x none p v ps means s = record {
  keys = keys_push ps p (codes "LeftMembers") v s.keys;
  member_clock = kept (number max_clock) old.member_clock (codes "LTime") ps (raw p (codes "LeftMembers")) v refl s.member_clock;
  status = kept status (option_map status_left old.status) (codes "StatusLTimes") ps (raw p (codes "LeftMembers")) v refl s.status;
  left = added (list text) (option_map texts_left old.left) (texts_left x) (codes "LeftMembers") ps (raw p (codes "LeftMembers")) v refl none means s.left;
  event_clock = kept (number max_clock) old.event_clock (codes "EventLTime") ps (raw p (codes "LeftMembers")) v refl s.event_clock;
  slots = kept (list slot) (option_map slots_left old.slots) (codes "Events") ps (raw p (codes "LeftMembers")) v refl s.slots;
  query_clock = kept (number max_clock) old.query_clock (codes "QueryLTime") ps (raw p (codes "LeftMembers")) v refl s.query_clock;
}

pub finds_event : (old : StateFields) (x : ℕ) → old.event_clock ≡ None → (p : ℕ) (v : Tree) (ps : List (Tree × Tree)) → number max_clock v ≡ Some x → IsStateSoFar old ps → IsStateSoFar (record old { event_clock = Some x }) (ps ++ (raw p (codes "EventLTime"), v) ∷ [])
finds_event old x none p v ps means s = record {
  keys = keys_push ps p (codes "EventLTime") v s.keys;
  member_clock = kept (number max_clock) old.member_clock (codes "LTime") ps (raw p (codes "EventLTime")) v refl s.member_clock;
  status = kept status (option_map status_left old.status) (codes "StatusLTimes") ps (raw p (codes "EventLTime")) v refl s.status;
  left = kept (list text) (option_map texts_left old.left) (codes "LeftMembers") ps (raw p (codes "EventLTime")) v refl s.left;
  event_clock = added (number max_clock) old.event_clock x (codes "EventLTime") ps (raw p (codes "EventLTime")) v refl none means s.event_clock;
  slots = kept (list slot) (option_map slots_left old.slots) (codes "Events") ps (raw p (codes "EventLTime")) v refl s.slots;
  query_clock = kept (number max_clock) old.query_clock (codes "QueryLTime") ps (raw p (codes "EventLTime")) v refl s.query_clock;
}

pub finds_slots : (old : StateFields) (x : SlotViews) → option_map slots_left old.slots ≡ None → (p : ℕ) (v : Tree) (ps : List (Tree × Tree)) → list slot v ≡ Some (slots_left x) → IsStateSoFar old ps → IsStateSoFar (record old { slots = Some x }) (ps ++ (raw p (codes "Events"), v) ∷ [])
finds_slots old x none p v ps means s = record {
  keys = keys_push ps p (codes "Events") v s.keys;
  member_clock = kept (number max_clock) old.member_clock (codes "LTime") ps (raw p (codes "Events")) v refl s.member_clock;
  status = kept status (option_map status_left old.status) (codes "StatusLTimes") ps (raw p (codes "Events")) v refl s.status;
  left = kept (list text) (option_map texts_left old.left) (codes "LeftMembers") ps (raw p (codes "Events")) v refl s.left;
  event_clock = kept (number max_clock) old.event_clock (codes "EventLTime") ps (raw p (codes "Events")) v refl s.event_clock;
  slots = added (list slot) (option_map slots_left old.slots) (slots_left x) (codes "Events") ps (raw p (codes "Events")) v refl none means s.slots;
  query_clock = kept (number max_clock) old.query_clock (codes "QueryLTime") ps (raw p (codes "Events")) v refl s.query_clock;
}

pub finds_query : (old : StateFields) (x : ℕ) → old.query_clock ≡ None → (p : ℕ) (v : Tree) (ps : List (Tree × Tree)) → number max_clock v ≡ Some x → IsStateSoFar old ps → IsStateSoFar (record old { query_clock = Some x }) (ps ++ (raw p (codes "QueryLTime"), v) ∷ [])
finds_query old x none p v ps means s = record {
  keys = keys_push ps p (codes "QueryLTime") v s.keys;
  member_clock = kept (number max_clock) old.member_clock (codes "LTime") ps (raw p (codes "QueryLTime")) v refl s.member_clock;
  status = kept status (option_map status_left old.status) (codes "StatusLTimes") ps (raw p (codes "QueryLTime")) v refl s.status;
  left = kept (list text) (option_map texts_left old.left) (codes "LeftMembers") ps (raw p (codes "QueryLTime")) v refl s.left;
  event_clock = kept (number max_clock) old.event_clock (codes "EventLTime") ps (raw p (codes "QueryLTime")) v refl s.event_clock;
  slots = kept (list slot) (option_map slots_left old.slots) (codes "Events") ps (raw p (codes "QueryLTime")) v refl s.slots;
  query_clock = added (number max_clock) old.query_clock x (codes "QueryLTime") ps (raw p (codes "QueryLTime")) v refl none means s.query_clock;
}

pub state_read : (n : ℕ) (bytes : List ℕ) (f : StateFields) → n < 16 → IsReadSoFar IsStateSoFar f n bytes [] → SpellsMap types.PushPull (push_pull (found_state f)) ((128 + n) ∷ bytes)
state_read n bytes f small r =
    let all : bytes ≡ r.text = r.bytes_are ∙ append-nil r.text in (
      r.pairs,
      map_packs n bytes r.pairs small r.count (subst (PackPairs r.pairs 1 1) (sym all) r.packs),
      record {
        keys = r.is.keys;
        member_clock = sole_shown (number max_clock) 0 f.member_clock _ refl r.is.member_clock;
        status = sole_shown status [] (option_map status_left f.status) _ refl r.is.status;
        left = sole_shown (list text) [] (option_map texts_left f.left) _ refl r.is.left;
        event_clock = sole_shown (number max_clock) 0 f.event_clock _ refl r.is.event_clock;
        slots = sole_shown (list slot) [] (option_map slots_left f.slots) _ refl r.is.slots;
        query_clock = sole_shown (number max_clock) 0 f.query_clock _ refl r.is.query_clock;
      },
    )

pub state_whole : (m : PushPull) (f : StateFields) (n : ℕ) (bytes rest end : List ℕ) → bytes ≡ (128 + n) ∷ rest → n < 16 → end ≡ [] → IsReadSoFar IsStateSoFar f n rest end → m ≡ found_state f → SpellsMap types.PushPull (push_pull m) bytes
state_whole m f n bytes rest end e small none r is =
    let read : IsReadSoFar IsStateSoFar f n rest [] = subst (λ t. IsReadSoFar IsStateSoFar f n rest t) none r in
    subst (SpellsMap types.PushPull (push_pull m)) (sym e) (subst (λ said. SpellsMap types.PushPull (push_pull said) ((128 + n) ∷ rest)) (sym is) (state_read n rest f small read))
