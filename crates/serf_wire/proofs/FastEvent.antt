-- User events that are maps in compact spellings.
use Rattle.serf_wire.proofs.Names.{Bool, IfSome, List, None, Option, Some, [], append-nil, arith, codes, false, refl, subst, sym, unwrap_or, ℕ, ◌++◌, ◌+◌, ◌<◌, ◌∙◌, ◌∷◌, ◌≡◌, option_copied, Bor, max_clock, PackPairs, Tree, raw, pair_list, IsEventSoFar, IsReadSoFar, found_event, number, text, truth, values_of, event_said, user_event, SpellsMap, EventFields}
use Rattle.serf_wire.specs.declared.message.UserEvent.{UserEvent as BorrowedEvent}
use Rattle.serf_wire.specs.declared.layout.MessageType.TheVariants as types
use Rattle.serf_wire.proofs.FastPairs.{keys_push, kept, added, sole_shown, narrow_sole, map_packs}

pub finds_time : (old : EventFields) (x : ℕ) → old.time ≡ None → (p : ℕ) (v : Tree) (ps : List (Tree × Tree)) → number max_clock v ≡ Some x → IsEventSoFar old ps → IsEventSoFar (record old { time = Some x }) (ps ++ (raw p (codes "LTime"), v) ∷ [])
finds_time old x none p v ps means s = record {
  keys = keys_push ps p (codes "LTime") v s.keys;
  time = added (number max_clock) old.time x (codes "LTime") ps (raw p (codes "LTime")) v refl none means s.time;
  name = kept text (option_copied old.name) (codes "Name") ps (raw p (codes "LTime")) v refl s.name;
  payload = kept text (option_copied old.payload) (codes "Payload") ps (raw p (codes "LTime")) v refl s.payload;
  coalesce = kept truth old.coalesce (codes "CC") ps (raw p (codes "LTime")) v refl s.coalesce;
}

pub finds_name : (old : EventFields) (x : Bor (List ℕ)) → option_copied old.name ≡ None → (p : ℕ) (v : Tree) (ps : List (Tree × Tree)) → text v ≡ Some x.now → IsEventSoFar old ps → IsEventSoFar (record old { name = Some x }) (ps ++ (raw p (codes "Name"), v) ∷ [])
finds_name old x none p v ps means s = record {
  keys = keys_push ps p (codes "Name") v s.keys;
  time = kept (number max_clock) old.time (codes "LTime") ps (raw p (codes "Name")) v refl s.time;
  name = added text (option_copied old.name) x.now (codes "Name") ps (raw p (codes "Name")) v refl none means s.name;
  payload = kept text (option_copied old.payload) (codes "Payload") ps (raw p (codes "Name")) v refl s.payload;
  coalesce = kept truth old.coalesce (codes "CC") ps (raw p (codes "Name")) v refl s.coalesce;
}

pub finds_payload : (old : EventFields) (x : Bor (List ℕ)) → option_copied old.payload ≡ None → (p : ℕ) (v : Tree) (ps : List (Tree × Tree)) → text v ≡ Some x.now → IsEventSoFar old ps → IsEventSoFar (record old { payload = Some x }) (ps ++ (raw p (codes "Payload"), v) ∷ [])
finds_payload old x none p v ps means s = record {
  keys = keys_push ps p (codes "Payload") v s.keys;
  time = kept (number max_clock) old.time (codes "LTime") ps (raw p (codes "Payload")) v refl s.time;
  name = kept text (option_copied old.name) (codes "Name") ps (raw p (codes "Payload")) v refl s.name;
  payload = added text (option_copied old.payload) x.now (codes "Payload") ps (raw p (codes "Payload")) v refl none means s.payload;
  coalesce = kept truth old.coalesce (codes "CC") ps (raw p (codes "Payload")) v refl s.coalesce;
}

pub finds_coalesce : (old : EventFields) (x : Bool) → old.coalesce ≡ None → (p : ℕ) (v : Tree) (ps : List (Tree × Tree)) → truth v ≡ Some x → IsEventSoFar old ps → IsEventSoFar (record old { coalesce = Some x }) (ps ++ (raw p (codes "CC"), v) ∷ [])
finds_coalesce old x none p v ps means s = record {
  keys = keys_push ps p (codes "CC") v s.keys;
  time = kept (number max_clock) old.time (codes "LTime") ps (raw p (codes "CC")) v refl s.time;
  name = kept text (option_copied old.name) (codes "Name") ps (raw p (codes "CC")) v refl s.name;
  payload = kept text (option_copied old.payload) (codes "Payload") ps (raw p (codes "CC")) v refl s.payload;
  coalesce = added truth old.coalesce x (codes "CC") ps (raw p (codes "CC")) v refl none means s.coalesce;
}

pub event_read : (n : ℕ) (bytes : List ℕ) (f : EventFields) → n < 16 → IsReadSoFar IsEventSoFar f n bytes [] → unwrap_or f.time 0 < 18446744073709551615
    → SpellsMap types.UserEvent (user_event (found_event f)) ((128 + n) ∷ bytes)
event_read n bytes f small r lt =
    let all : bytes ≡ r.text = r.bytes_are ∙ append-nil r.text in (
      r.pairs,
      map_packs n bytes r.pairs small r.count (subst (PackPairs r.pairs 1 1) (sym all) r.packs),
      record {
        keys = r.is.keys;
        time = narrow_sole max_clock (unwrap_or f.time 0) 18446744073709551614 (values_of (codes "LTime") (pair_list r.pairs)) (sole_shown (number max_clock) 0 f.time _ refl r.is.time) (omega arith);
        name = sole_shown text [] (option_copied f.name) _ refl r.is.name;
        payload = sole_shown text [] (option_copied f.payload) _ refl r.is.payload;
        coalesce = sole_shown truth false f.coalesce _ refl r.is.coalesce;
      },
    )

pub event_whole : (r : Option BorrowedEvent) (f : EventFields) (n : ℕ) (bytes rest end : List ℕ) → bytes ≡ (128 + n) ∷ rest → n < 16 → end ≡ [] → IsReadSoFar IsEventSoFar f n rest end
    → IfSome r (λ e. event_said e ≡ found_event f) → IfSome r (λ e. unwrap_or f.time 0 < 18446744073709551615)
    → IfSome r (λ e. SpellsMap types.UserEvent (user_event (event_said e)) bytes)
event_whole None f n bytes rest end e small none r is lt = tt
event_whole (Some m) f n bytes rest end e small none r is lt =
    let read : IsReadSoFar IsEventSoFar f n rest [] = subst (λ t. IsReadSoFar IsEventSoFar f n rest t) none r in
    subst (SpellsMap types.UserEvent (user_event (event_said m))) (sym e) (subst (λ said. SpellsMap types.UserEvent (user_event said) ((128 + n) ∷ rest)) (sym is) (event_read n rest f small read lt))
