-- What packets are, exactly.
use Rattle.serf_wire.proofs.Names.{Err, IfErr, IfOk, IsOkAnd, List, MatchResult, None, Ok, Option, Result, Some, [], ap, refl, subst, sym, ℕ, ◌∙◌, ◌∷◌, ◌≡◌, Gives, whole_at, Tree, array, flag, int, nil, pairs, raw, pair_list, PackError, Below, checked_pairs, made_of, decoded_after, read_value, decoded, first, message_errors, class_of, layout_of, Message, foreign, message_of, push_pull, query, query_response, user_event, message_in, unless_error, HasFields, IsFirstError, IsFirstErrorAfter, IsFirstMapError, Spells, SpellsAfter, SpellsMap, WireError, Class, MessageType}
use Rattle.serf_wire.specs.declared.error.WireError.TheVariants as errors
use Rattle.serf_wire.specs.declared.layout.MessageType.TheVariants as types
use Rattle.serf_wire.specs.declared.layout.Class.TheVariants as classes
use Rattle.serf_wire.specs.declared.message.Message.{Message as Borrowed}
use Rattle.serf_wire.proofs.CheckedMaps.{IsChecked, value_checked, sound_checked, malformed_checked}
use Rattle.serf_wire.proofs.MessageFields.{event_there, event_clean, event_is, query_there, query_clean, query_is, response_there, response_clean, response_is, push_pull_there, push_pull_clean, push_pull_is}

-- ---- the message of a map

fields_there : (message : MessageType) (ps : List (Tree × Tree)) → message_errors message ps ≡ [] → HasFields message (message_in message ps) ps
fields_there types.UserEvent ps none = event_there ps none
fields_there types.Query ps none = query_there ps none
fields_there types.QueryResponse ps none = response_there ps none
fields_there types.PushPull ps none = push_pull_there ps none

fields_clean : (message : MessageType) (m : Message) (ps : List (Tree × Tree)) → HasFields message m ps → (message_errors message ps ≡ []) × (message_in message ps ≡ m)
fields_clean types.UserEvent (user_event e) ps h = (event_clean e ps h, ap user_event (event_is e ps h))
fields_clean types.UserEvent (query e) ps h = absurd h
fields_clean types.UserEvent (query_response e) ps h = absurd h
fields_clean types.UserEvent (push_pull e) ps h = absurd h
fields_clean types.UserEvent (foreign k) ps h = absurd h
fields_clean types.Query (user_event e) ps h = absurd h
fields_clean types.Query (query e) ps h = (query_clean e ps h, ap query (query_is e ps h))
fields_clean types.Query (query_response e) ps h = absurd h
fields_clean types.Query (push_pull e) ps h = absurd h
fields_clean types.Query (foreign k) ps h = absurd h
fields_clean types.QueryResponse (user_event e) ps h = absurd h
fields_clean types.QueryResponse (query e) ps h = absurd h
fields_clean types.QueryResponse (query_response e) ps h = (response_clean e ps h, ap query_response (response_is e ps h))
fields_clean types.QueryResponse (push_pull e) ps h = absurd h
fields_clean types.QueryResponse (foreign k) ps h = absurd h
fields_clean types.PushPull (user_event e) ps h = absurd h
fields_clean types.PushPull (query e) ps h = absurd h
fields_clean types.PushPull (query_response e) ps h = absurd h
fields_clean types.PushPull (push_pull e) ps h = (push_pull_clean e ps h, ap push_pull (push_pull_is e ps h))
fields_clean types.PushPull (foreign k) ps h = absurd h

-- ---- what is true of each error and of each message of a type is true of the reading of a value

pub read_has : (P : Result Message WireError → Type 0) (message : MessageType) (r : Result Tree PackError) → ((f : WireError) → P (Err f)) → ((ps : List (Tree × Tree)) → P (Ok (message_in message ps))) → P (read_value message r)
read_has P message (Err f) bad good = bad _
read_has P message (Ok (nil p)) bad good = bad _
read_has P message (Ok (flag p b)) bad good = bad _
read_has P message (Ok (int p z)) bad good = bad _
read_has P message (Ok (raw p s)) bad good = bad _
read_has P message (Ok (array p vs)) bad good = bad _
read_has P message (Ok (pairs p ps)) bad good = by (first (message_errors message (pair_list ps)))
  where
    by : (o : Option WireError) → P (unless_error o (message_in message (pair_list ps)))
    by None = good (pair_list ps)
    by (Some f) = bad f

-- ---- the reading of a value is exact

abbrev IsAnswer : MessageType → List ℕ → Result Message WireError → Type 0
IsAnswer message bytes r = MatchResult r (λ m. SpellsMap message m bytes) (λ f. IsFirstMapError (layout_of message) bytes f)

-- a message's value is made from the map's pairs
pub read_by_checked : (message : MessageType) (r : Result Tree PackError) → read_value message r ≡ made_of (message_in message) (checked_pairs (layout_of message) r)
read_by_checked message (Err f) = refl
read_by_checked message (Ok (nil p)) = refl
read_by_checked message (Ok (flag p b)) = refl
read_by_checked message (Ok (int p z)) = refl
read_by_checked message (Ok (raw p s)) = refl
read_by_checked message (Ok (array p vs)) = refl
read_by_checked message (Ok (pairs p ps)) = by (first (message_errors message (pair_list ps)))
  where
    by : (o : Option WireError) → unless_error o (message_in message (pair_list ps)) ≡ made_of (message_in message) (unless_error o (pair_list ps))
    by None = refl
    by (Some f) = refl

made_answer : (message : MessageType) (bytes : List ℕ) (r : Result (List (Tree × Tree)) WireError) → IsChecked (layout_of message) bytes r → IsAnswer message bytes (made_of (message_in message) r)
made_answer message bytes (Ok ps) s = (s.map, s.packs, subst (HasFields message (message_in message ps)) (sym s.are) (fields_there message ps s.sound))
made_answer message bytes (Err f) h = h

value_answer : Below → (message : MessageType) (bytes : List ℕ) → IsAnswer message bytes (read_value message (whole_at 8 bytes))
value_answer below message bytes = subst (IsAnswer message bytes) (sym (read_by_checked message (whole_at 8 bytes))) (made_answer message bytes _ (value_checked below (layout_of message) bytes _ refl))

abbrev IsPacketAnswer : List ℕ → Result Message WireError → Type 0
IsPacketAnswer packet r = MatchResult r (λ m. Spells m packet) (λ f. IsFirstError packet f)

after_answer : Below → (class : Class) (kind : ℕ) (bytes : List ℕ) → MatchResult (decoded_after class kind bytes) (λ m. SpellsAfter class kind m bytes) (λ f. IsFirstErrorAfter class kind bytes f)
after_answer below (classes.Read message) kind bytes = value_answer below message bytes
after_answer below classes.Foreign kind bytes = refl
after_answer below classes.Unknown kind bytes = refl

-- a packet decodes to the message that it spells, or to its first error
packet_answer : Below → (packet : List ℕ) → IsPacketAnswer packet (decoded packet)
unfolding decoded
packet_answer below [] = refl
packet_answer below (kind ∷ bytes) = after_answer below (class_of kind) kind bytes

-- ---- the other direction

pub spelled_map : Below → (message : MessageType) (bytes : List ℕ) (m : Message) → SpellsMap message m bytes → read_value message (whole_at 8 bytes) ≡ Ok m
spelled_map below message bytes m s =
    let c = fields_clean message m (pair_list s.0) s.2 in
    read_by_checked message _ ∙ ap (made_of (message_in message)) (sound_checked below (layout_of message) bytes s.0 s.1 c.0) ∙ ap (λ n. Ok n) c.1

malformed_map : Below → (message : MessageType) (bytes : List ℕ) (f : WireError) → IsFirstMapError (layout_of message) bytes f → read_value message (whole_at 8 bytes) ≡ Err f
malformed_map below message bytes f h = read_by_checked message _ ∙ ap (made_of (message_in message)) (malformed_checked below (layout_of message) bytes f h)

spelled_after : Below → (class : Class) (kind : ℕ) (bytes : List ℕ) (m : Message) → SpellsAfter class kind m bytes → decoded_after class kind bytes ≡ Ok m
spelled_after below (classes.Read message) kind bytes m s = spelled_map below message bytes m s
spelled_after below classes.Foreign kind bytes m s = ap (λ n. Ok n) (sym s)
spelled_after below classes.Unknown kind bytes m s = absurd s

malformed_after : Below → (class : Class) (kind : ℕ) (bytes : List ℕ) (f : WireError) → IsFirstErrorAfter class kind bytes f → decoded_after class kind bytes ≡ Err f
malformed_after below (classes.Read message) kind bytes f h = malformed_map below message bytes f h
malformed_after below classes.Foreign kind bytes f h = absurd h
malformed_after below classes.Unknown kind bytes f h = ap (λ g. Err g) (sym h)

pub spelled_decoded : Below → (packet : List ℕ) (m : Message) → Spells m packet → decoded packet ≡ Ok m
unfolding decoded
spelled_decoded below [] m s = absurd s
spelled_decoded below (kind ∷ bytes) m s = spelled_after below (class_of kind) kind bytes m s

pub malformed_decoded : Below → (packet : List ℕ) (f : WireError) → IsFirstError packet f → decoded packet ≡ Err f
unfolding decoded
malformed_decoded below [] f h = ap (λ g. Err g) (sym h)
malformed_decoded below (kind ∷ bytes) f h = malformed_after below (class_of kind) kind bytes f h

pub decoded_spelled : Below → (packet : List ℕ) (m : Message) → decoded packet ≡ Ok m → Spells m packet
decoded_spelled below packet m e = subst (IsPacketAnswer packet) e (packet_answer below packet)

pub decoded_malformed : Below → (packet : List ℕ) (f : WireError) → decoded packet ≡ Err f → IsFirstError packet f
decoded_malformed below packet f e = subst (IsPacketAnswer packet) e (packet_answer below packet)

pub one_message : Below → (packet : List ℕ) (m n : Message) → Spells m packet → Spells n packet → m ≡ n
one_message below packet m n s t = let same = sym (spelled_decoded below packet m s) ∙ spelled_decoded below packet n t in cc

-- ---- the clauses of a result that shows what is decoded

module _ (packet : List ℕ) where
  pub result_spells : Below → (r : Result Borrowed WireError) → Gives message_of r (decoded packet) → IfOk r (λ m. Spells (message_of m) packet)
  result_spells below (Ok x) e = decoded_spelled below packet (message_of x) e
  result_spells below (Err f) e = tt

  pub result_only : Below → (r : Result Borrowed WireError) → Gives message_of r (decoded packet) → (m : Message) → Spells m packet → IsOkAnd r (λ x. message_of x ≡ m)
  result_only below (Ok x) e m s = let same = sym e ∙ spelled_decoded below packet m s in cc
  result_only below (Err f) e m s = let same = sym e ∙ spelled_decoded below packet m s in absurd cc

  pub result_error : Below → (r : Result Borrowed WireError) → Gives message_of r (decoded packet) → IfErr r (IsFirstError packet)
  result_error below (Ok x) e = tt
  result_error below (Err f) e = decoded_malformed below packet f e

  pub result_only_error : Below → (r : Result Borrowed WireError) → Gives message_of r (decoded packet) → (f : WireError) → IsFirstError packet f → r ≡ Err f
  result_only_error below (Ok x) e f h = let same = sym e ∙ malformed_decoded below packet f h in absurd cc
  result_only_error below (Err g) e f h = let same = sym e ∙ malformed_decoded below packet f h in cc
