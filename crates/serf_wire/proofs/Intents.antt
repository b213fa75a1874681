-- What packets are as intents, exactly.
use Rattle.serf_wire.proofs.Names.{Err, IfErr, IfOk, IfSome, IsOkAnd, List, MatchResult, None, Ok, Option, Result, Some, [], ap, codes, false, refl, subst, sym, ℕ, ◌↔◌, ◌∙◌, ◌∷◌, ◌≡◌, same_Some, option_map, IsSomeAnd, Gives, whole_at, Tree, pair_list, Below, checked_pairs, made_of, layout_errors, value_errors, text, time, truth, values_of, HasIntent, Intent, IsFirstIntentError, IsFirstIntentErrorAfter, IsJoin, IsLeave, IsOther, IsUnknown, Join, Leave, ReadsIntents, SpellsIntent, SpellsIntentAfter, intent_after, intent_in, intent_layout, intent_of, intent_type_of, join, join_in, leave, leave_in, other_message, read_intent_map, intent_read, class_of, fields_of, text_in, time_in, truth_in, IsFirstMapError, WireError, IntentType, Class}
use Rattle.std.specs.Prelude.{Bool}
use Rattle.serf_wire.specs.declared.error.WireError.TheVariants as errors
use Rattle.serf_wire.specs.declared.intent.Intent.{Intent as Borrowed}
use Rattle.serf_wire.specs.declared.intent.IntentType.TheVariants as types
use Rattle.serf_wire.specs.declared.layout.Class.TheVariants as classes
use Rattle.serf_wire.specs.declared.layout.Kind.TheVariants as kinds
use Rattle.serf_wire.specs.declared.layout.Layout.TheVariants as layouts
use Rattle.serf_wire.proofs.CheckedMaps.{IsChecked, value_checked, sound_checked, malformed_checked}
use Rattle.serf_wire.proofs.Meanings.{text_exact, truth_exact, time_exact}
use Rattle.serf_wire.proofs.MessageFields.{field_there, sole_there}
use Rattle.serf_wire.proofs.Sound.{Pairs, raw_keys, IsSole, clean, each_known}

-- ---- from a map without errors to its fields, and back

join_there : (ps : Pairs) → layout_errors layouts.Join ps ≡ [] → IsJoin (join_in ps) ps
join_there ps none = record {
  keys = raw_keys (value_errors 2) layouts.Join [] ps none;
  time = field_there time time_in 2 kinds.Time time_exact layouts.Join (codes "LTime") refl ps none;
  node = field_there text text_in 2 kinds.Text text_exact layouts.Join (codes "Node") refl ps none;
}

join_clean : (j : Join) (ps : Pairs) → IsJoin j ps → layout_errors layouts.Join ps ≡ []
join_clean j ps h =
    clean (value_errors 2) layouts.Join [] ps h.keys (each_known (λ n k. IsSole (value_errors 2) k false (values_of n ps)) (fields_of layouts.Join)
    (sole_there time time_in 2 kinds.Time time_exact _ _ h.time, (sole_there text text_in 2 kinds.Text text_exact _ _ h.node, tt)))

same_join : (ps : Pairs) (d e : Join) → IsJoin d ps → IsJoin e ps → d ≡ e
same_join ps d e h g =
    let make : ℕ → List ℕ → Join = λ t n. record { time = t; node = n } in
    let times : d.time ≡ e.time = same_Some _ _ (sym h.time ∙ g.time) in
    let nodes : d.node ≡ e.node = same_Some _ _ (sym h.node ∙ g.node) in
    let all : make d.time d.node ≡ make e.time e.node = rw (times, nodes) refl in
    all

leave_there : (ps : Pairs) → layout_errors layouts.Leave ps ≡ [] → IsLeave (leave_in ps) ps
leave_there ps none = record {
  keys = raw_keys (value_errors 2) layouts.Leave [] ps none;
  time = field_there time time_in 2 kinds.Time time_exact layouts.Leave (codes "LTime") refl ps none;
  node = field_there text text_in 2 kinds.Text text_exact layouts.Leave (codes "Node") refl ps none;
  prune = field_there truth truth_in 2 kinds.Flag truth_exact layouts.Leave (codes "Prune") refl ps none;
}

leave_clean : (l : Leave) (ps : Pairs) → IsLeave l ps → layout_errors layouts.Leave ps ≡ []
leave_clean l ps h =
    clean (value_errors 2) layouts.Leave [] ps h.keys (each_known (λ n k. IsSole (value_errors 2) k false (values_of n ps)) (fields_of layouts.Leave)
    (sole_there time time_in 2 kinds.Time time_exact _ _ h.time, (sole_there text text_in 2 kinds.Text text_exact _ _ h.node, (sole_there truth truth_in 2 kinds.Flag truth_exact _ _ h.prune, tt))))

same_leave : (ps : Pairs) (d e : Leave) → IsLeave d ps → IsLeave e ps → d ≡ e
same_leave ps d e h g =
    let make : ℕ → List ℕ → Bool → Leave = λ t n p. record { time = t; node = n; prune = p } in
    let times : d.time ≡ e.time = same_Some _ _ (sym h.time ∙ g.time) in
    let nodes : d.node ≡ e.node = same_Some _ _ (sym h.node ∙ g.node) in
    let prunes : d.prune ≡ e.prune = same_Some _ _ (sym h.prune ∙ g.prune) in
    let all : make d.time d.node d.prune ≡ make e.time e.node e.prune = rw (times, nodes, prunes) refl in
    all

intent_there : (type : IntentType) (ps : Pairs) → layout_errors (intent_layout type) ps ≡ [] → HasIntent type (intent_in type ps) ps
intent_there types.Join ps none = join_there ps none
intent_there types.Leave ps none = leave_there ps none

-- the pairs of an intent have no error, and are read as this intent
record IsReadAs (type : IntentType) (i : Intent) (ps : Pairs) : Type 0 where
  sound : layout_errors (intent_layout type) ps ≡ []
  is : intent_in type ps ≡ i

intent_clean : (type : IntentType) (i : Intent) (ps : Pairs) → HasIntent type i ps → IsReadAs type i ps
intent_clean types.Join (join j) ps h = let none = join_clean j ps h in record { sound = none; is = ap join (same_join ps (join_in ps) j (join_there ps none) h) }
intent_clean types.Join (leave l) ps h = absurd h
intent_clean types.Leave (join j) ps h = absurd h
intent_clean types.Leave (leave l) ps h = let none = leave_clean l ps h in record { sound = none; is = ap leave (same_leave ps (leave_in ps) l (leave_there ps none) h) }

-- ---- what is read from a packet

abbrev IsMapAnswer : IntentType → List ℕ → Result Intent WireError → Type 0
IsMapAnswer type bytes r = MatchResult r (λ i. SpellsIntentAfter (Some type) i bytes) (λ f. IsFirstMapError (intent_layout type) bytes f)

made_answer : (type : IntentType) (bytes : List ℕ) (r : Result Pairs WireError) → IsChecked (intent_layout type) bytes r → IsMapAnswer type bytes (made_of (intent_in type) r)
made_answer type bytes (Ok ps) s = (s.map, s.packs, subst (HasIntent type (intent_in type ps)) (sym s.are) (intent_there type ps s.sound))
made_answer type bytes (Err f) h = h

abbrev IsAnswerAfter : Option IntentType → ℕ → List ℕ → Result (Option Intent) WireError → Type 0
IsAnswerAfter o kind bytes (Ok (Some i)) = SpellsIntentAfter o i bytes
IsAnswerAfter o kind bytes (Ok None) = (o ≡ None) × (IsUnknown (class_of kind) → ⊥)
IsAnswerAfter o kind bytes (Err f) = IsFirstIntentErrorAfter o kind bytes f

some_answer : (type : IntentType) (kind : ℕ) (bytes : List ℕ) (r : Result Intent WireError) → IsMapAnswer type bytes r → IsAnswerAfter (Some type) kind bytes (made_of (λ i. Some i) r)
some_answer type kind bytes (Ok i) s = s
some_answer type kind bytes (Err f) h = h

other_answer : (kind : ℕ) (bytes : List ℕ) (class : Class) → class_of kind ≡ class → IsAnswerAfter None kind bytes (other_message class kind)
other_answer kind bytes (classes.Read message) e = (refl, λ u. subst IsUnknown e u)
other_answer kind bytes classes.Foreign e = (refl, λ u. subst IsUnknown e u)
other_answer kind bytes classes.Unknown e = (subst IsUnknown (sym e) tt, refl)

after_answer : Below → (o : Option IntentType) (kind : ℕ) (bytes : List ℕ) → IsAnswerAfter o kind bytes (intent_after o kind bytes)
after_answer below (Some type) kind bytes = some_answer type kind bytes _ (made_answer type bytes _ (value_checked below (intent_layout type) bytes _ refl))
after_answer below None kind bytes = other_answer kind bytes (class_of kind) refl

abbrev IsPacketAnswer : List ℕ → Result (Option Intent) WireError → Type 0
IsPacketAnswer packet (Ok (Some i)) = SpellsIntent i packet
IsPacketAnswer packet (Ok None) = IsOther packet
IsPacketAnswer packet (Err f) = IsFirstIntentError packet f

whole_answer : (kind : ℕ) (bytes : List ℕ) (r : Result (Option Intent) WireError) → IsAnswerAfter (intent_type_of kind) kind bytes r → IsPacketAnswer (kind ∷ bytes) r
whole_answer kind bytes (Ok (Some i)) h = h
whole_answer kind bytes (Ok None) h = h
whole_answer kind bytes (Err f) h = h

packet_answer : Below → (packet : List ℕ) → IsPacketAnswer packet (intent_read packet)
unfolding intent_read
packet_answer below [] = refl
packet_answer below (kind ∷ bytes) = whole_answer kind bytes _ (after_answer below (intent_type_of kind) kind bytes)

pub read_spelled : Below → (packet : List ℕ) (i : Intent) → intent_read packet ≡ Ok (Some i) → SpellsIntent i packet
read_spelled below packet i e = subst (IsPacketAnswer packet) e (packet_answer below packet)

pub read_malformed : Below → (packet : List ℕ) (f : WireError) → intent_read packet ≡ Err f → IsFirstIntentError packet f
read_malformed below packet f e = subst (IsPacketAnswer packet) e (packet_answer below packet)

pub read_other : Below → (packet : List ℕ) → intent_read packet ≡ Ok None → IsOther packet
read_other below packet e = subst (IsPacketAnswer packet) e (packet_answer below packet)

-- ---- the other direction

spelled_after : Below → (o : Option IntentType) (kind : ℕ) (bytes : List ℕ) (i : Intent) → SpellsIntentAfter o i bytes → intent_after o kind bytes ≡ Ok (Some i)
spelled_after below (Some type) kind bytes i s =
    let c = intent_clean type i (pair_list s.0) s.2 in
    ap (λ r. made_of (λ j. Some j) (made_of (intent_in type) r)) (sound_checked below (intent_layout type) bytes s.0 s.1 c.sound) ∙ ap (λ j. Ok (Some j)) c.is
spelled_after below None kind bytes i s = absurd s

other_unknown : (kind : ℕ) (class : Class) → IsUnknown class → other_message class kind ≡ Err (errors.UnknownType kind)
other_unknown kind (classes.Read message) u = absurd u
other_unknown kind classes.Foreign u = absurd u
other_unknown kind classes.Unknown u = refl

other_known : (kind : ℕ) (class : Class) → (IsUnknown class → ⊥) → other_message class kind ≡ Ok None
other_known kind (classes.Read message) not = refl
other_known kind classes.Foreign not = refl
other_known kind classes.Unknown not = absurd (not tt)

malformed_after : Below → (o : Option IntentType) (kind : ℕ) (bytes : List ℕ) (f : WireError) → IsFirstIntentErrorAfter o kind bytes f → intent_after o kind bytes ≡ Err f
malformed_after below (Some type) kind bytes f h = ap (λ r. made_of (λ j. Some j) (made_of (intent_in type) r)) (malformed_checked below (intent_layout type) bytes f h)
malformed_after below None kind bytes f h = other_unknown kind (class_of kind) h.0 ∙ ap (λ g. Err g) (sym h.1)

pub spelled_read : Below → (packet : List ℕ) (i : Intent) → SpellsIntent i packet → intent_read packet ≡ Ok (Some i)
unfolding intent_read
spelled_read below [] i s = absurd s
spelled_read below (kind ∷ bytes) i s = spelled_after below (intent_type_of kind) kind bytes i s

pub malformed_read : Below → (packet : List ℕ) (f : WireError) → IsFirstIntentError packet f → intent_read packet ≡ Err f
unfolding intent_read
malformed_read below [] f h = ap (λ g. Err g) (sym h)
malformed_read below (kind ∷ bytes) f h = malformed_after below (intent_type_of kind) kind bytes f h

pub other_read : (packet : List ℕ) → IsOther packet → intent_read packet ≡ Ok None
unfolding intent_read
other_read [] h = absurd h
other_read (kind ∷ bytes) h = ap (λ o. intent_after o kind bytes) h.0 ∙ other_known kind (class_of kind) h.1

pub reads_intents : Below → ReadsIntents
reads_intents below = record {
  spells = λ packet i. (read_spelled below packet i, spelled_read below packet i);
  error = λ packet f. (read_malformed below packet f, malformed_read below packet f);
  other = λ packet. (read_other below packet, other_read packet);
}

-- ---- the clauses of a result that shows what is read

module _ (below : Below) (packet : List ℕ) where
  pub result_spells : (r : Result (Option Borrowed) WireError) → Gives (option_map intent_of) r (intent_read packet) → IfOk r (λ o. IfSome o (λ i. SpellsIntent (intent_of i) packet))
  result_spells (Ok (Some x)) e = read_spelled below packet (intent_of x) e
  result_spells (Ok None) e = tt
  result_spells (Err f) e = tt

  pub result_only : (r : Result (Option Borrowed) WireError) → Gives (option_map intent_of) r (intent_read packet) → (i : Intent) → SpellsIntent i packet → IsOkAnd r (λ o. IsSomeAnd o (λ x. intent_of x ≡ i))
  result_only (Ok (Some x)) e i s = let same = sym e ∙ spelled_read below packet i s in cc
  result_only (Ok None) e i s = let same = sym e ∙ spelled_read below packet i s in absurd cc
  result_only (Err f) e i s = let same = sym e ∙ spelled_read below packet i s in absurd cc

  pub result_error : (r : Result (Option Borrowed) WireError) → Gives (option_map intent_of) r (intent_read packet) → IfErr r (IsFirstIntentError packet)
  result_error (Ok o) e = tt
  result_error (Err f) e = read_malformed below packet f e

  pub result_only_error : (r : Result (Option Borrowed) WireError) → Gives (option_map intent_of) r (intent_read packet) → (f : WireError) → IsFirstIntentError packet f → r ≡ Err f
  result_only_error (Ok o) e f h = let same = sym e ∙ malformed_read below packet f h in absurd cc
  result_only_error (Err g) e f h = let same = sym e ∙ malformed_read below packet f h in cc

  is_none : (r : Result (Option Borrowed) WireError) → Gives (option_map intent_of) r (intent_read packet) → r ≡ Ok None → IsOther packet
  is_none (Ok (Some x)) e n = absurd cc
  is_none (Ok None) e n = read_other below packet e
  is_none (Err f) e n = absurd cc

  none_is : (r : Result (Option Borrowed) WireError) → Gives (option_map intent_of) r (intent_read packet) → IsOther packet → r ≡ Ok None
  none_is (Ok (Some x)) e h = let same = sym e ∙ other_read packet h in absurd cc
  none_is (Ok None) e h = refl
  none_is (Err f) e h = let same = sym e ∙ other_read packet h in absurd cc

  pub result_other : (r : Result (Option Borrowed) WireError) → Gives (option_map intent_of) r (intent_read packet) → (r ≡ Ok None) ↔ IsOther packet
  result_other r e = (is_none r e, none_is r e)
