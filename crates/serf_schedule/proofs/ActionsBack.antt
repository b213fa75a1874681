-- The lines of actions are read back.
use Rattle.serf_schedule.proofs.TextNames.{◌≡◌, ◌+◌, ◌%◌, ◌<◌, ◌≤◌, ◌^◌, ◌∙◌, ℕ, ℤ, pos, List, [], ◌∷◌, ◌++◌, Bool, true, false, Some, Ok, refl, sym, ap, arith, codes, decimal, map, append_assoc, ◌==◌, nat_le, signed_decimal, AllByRecursion, common_steps, append-nil, recursion_from_All, IsBytes, QueryParams, Action, Deed, NewQuery, SinkCall, Append, Flush, ReplaceOld, ReplaceNew, command_of, Parsed, with_action, said_by, filters_from, params_of, query_of, firing_of, delivery_of, merging_of, answer_of, restart_of, break_of, injection_of, closing_of, flag_text, hex_text, between, bytes_in, choice_in, choice_of, number_between, number_in, sink_call_in, sink_call_of}
use Rattle.std.specs.Prelude.{cond}
use Rattle.serf_model.specs.declared.action.Act.TheVariants as acts
use Rattle.serf_schedule.proofs.Names.{Inject, Of, AreSayable, IsActSayable, IsQuerySayable, IsSayable, action_words, flags_of, join_word, sink_call_word}
use Rattle.serf_schedule.proofs.WordsBack.{bytes-back, number-back}

-- Words that are one of a few

choice-back : (b : Bool) → choice_of (codes "0") (codes "1") (flag_text b) ≡ Some b
choice-back true = refl
choice-back false = refl

join-back : (b : Bool) → choice_of (codes "sync") (codes "join") (join_word b) ≡ Some b
join-back true = refl
join-back false = refl

call-back : (c : SinkCall) → sink_call_of (sink_call_word c) ≡ Some c
call-back Append = refl
call-back Flush = refl
call-back ReplaceOld = refl
call-back ReplaceNew = refl

-- a number between two others
between-back : (low high n : ℕ) → low ≤ n → n ≤ high → between low high (Some n) ≡ Some n
between-back low high n from to = grind (arith, common_steps)

-- Queries

filters-back : (before lists : List (List ℕ)) (place : ℕ) → AllByRecursion IsBytes lists
    → filters_from before place (map hex_text lists) ≡ Ok (before ++ lists)
filters-back before [] place h = ap Ok (sym (append-nil before))
filters-back before (list ∷ lists) place h =
    rw (bytes-back list h.0) (filters-back (before ++ list ∷ []) lists (place + 1) h.1 ∙ ap Ok (append_assoc before (list ∷ []) lists))

flags-lowest : (a b : Bool) → (cond a 1 0 + cond b 2 0) % 2 == 1 ≡ a
flags-lowest true true = refl
flags-lowest true false = refl
flags-lowest false true = refl
flags-lowest false false = refl

flags-maximum : (a b : Bool) → nat_le 2 (cond a 1 0 + cond b 2 0) ≡ b
flags-maximum true true = refl
flags-maximum true false = refl
flags-maximum false true = refl
flags-maximum false false = refl

flags-few : (a b : Bool) → cond a 1 0 + cond b 2 0 ≤ 3
flags-few true true = omega arith
flags-few true false = omega arith
flags-few false true = omega arith
flags-few false false = omega arith

-- how a query is fired, as its line says
abbrev said_params : QueryParams → ℕ → QueryParams
said_params params nanoseconds = record {
  filters = params.filters;
  want_ack = flags_of params % 2 == 1;
  no_broadcast = nat_le 2 (flags_of params);
  tags_pass = false;
  timeout = pos nanoseconds;
  addr = [];
  port = 0;
  relay_factor = 0;
}

all-said : (params : QueryParams) (h : AreSayable params) → said_params params h.nanoseconds ≡ params
all-said params h = λ k. record {
  filters = params.filters;
  want_ack = flags-lowest params.want_ack params.no_broadcast k;
  no_broadcast = flags-maximum params.want_ack params.no_broadcast k;
  tags_pass = sym h.tags_pass k;
  timeout = sym h.timeout k;
  addr = sym h.addr k;
  port = sym h.port k;
  relay_factor = sym h.relay_factor k;
}

-- the eight words before the filters, with a timeout in nanoseconds
abbrev head_words : ℕ → NewQuery → ℕ → List (List ℕ)
head_words agent q nanoseconds =
    codes "query" ∷ decimal agent ∷ decimal q.moment ∷ decimal q.id ∷ hex_text q.name ∷ hex_text q.payload ∷ decimal nanoseconds ∷ decimal (flags_of q.params) ∷ []

params-back : (agent : ℕ) (q : NewQuery) (h : AreSayable q.params) → params_of (head_words agent q h.nanoseconds) (map hex_text q.params.filters) ≡ Ok (said_params q.params h.nanoseconds)
unfolding params_of number_between
params-back agent q h =
    let few = flags-few q.params.want_ack q.params.no_broadcast in
    let maximum : h.nanoseconds ≤ 9223372036854775807 = omega (arith, h.timeout_fits) in
    rw (
      number-back h.nanoseconds (omega (arith, h.timeout_fits)),
      between-back 0 9223372036854775807 h.nanoseconds (omega arith) maximum,
      number-back (flags_of q.params) (omega (arith, few)),
      between-back 0 3 (flags_of q.params) (omega arith) few,
      filters-back [] q.params.filters 9 (recursion_from_All IsBytes q.params.filters h.filters),
    ) refl

query-back : (agent : ℕ) (q : NewQuery) (h : IsQuerySayable q) → query_of (head_words agent q h.params.nanoseconds) (map hex_text q.params.filters) ≡ Ok (acts.Query q)
unfolding query_of number_in number_between bytes_in
query-back agent q h =
    rw (
      number-back q.moment h.moment,
      number-back q.id (omega (arith, h.id)),
      between-back 0 4294967295 q.id (omega arith) (omega (arith, h.id)),
      bytes-back q.name h.name,
      bytes-back q.payload h.payload,
      params-back agent q h.params,
    )
    (ap (λ (ps : QueryParams). Ok (acts.Query record { moment = q.moment; id = q.id; name = q.name; payload = q.payload; params = ps })) (all-said q.params h.params))

query-said : (p : Parsed) (agent : ℕ) (q : NewQuery) → agent < 2 ^ 64 → (h : IsQuerySayable q)
    → said_by p (head_words agent q h.params.nanoseconds ++ map hex_text q.params.filters) ≡ Ok (with_action p (Of agent (acts.Query q)))
unfolding command_of number_in
query-said p agent q a h = rw (number-back agent a, query-back agent q h) refl

-- Lines

pub act-back : (p : Parsed) (agent : ℕ) (act : Deed) → agent < 2 ^ 64 → IsActSayable act → said_by p (action_words (Of agent act)) ≡ Ok (with_action p (Of agent act))
unfolding command_of firing_of delivery_of merging_of answer_of restart_of break_of closing_of number_in number_between bytes_in choice_in sink_call_in
act-back p agent (acts.Fire name payload coalesce) a h = rw (number-back agent a, bytes-back name h.0, bytes-back payload h.1, choice-back coalesce) refl
act-back p agent (acts.Deliver packet now) a h = rw (number-back agent a, number-back packet h.0, number-back now h.1) refl
act-back p agent (acts.Merge packet join) a h = rw (number-back agent a, number-back packet h, join-back join) refl
act-back p agent (acts.Query q) a h =
    let time : (z : ℤ) → List (List ℕ) = λ z.
    codes "query" ∷ decimal agent ∷ decimal q.moment ∷ decimal q.id ∷ hex_text q.name ∷ hex_text q.payload ∷ signed_decimal z ∷ decimal (flags_of q.params) ∷ map hex_text q.params.filters
    in ap (λ z. said_by p (time z)) h.params.timeout ∙ query-said p agent q a h
act-back p agent (acts.Respond handed now payload) a h = rw (number-back agent a, number-back handed h.0, number-back now h.1, bytes-back payload h.2) refl
act-back p agent (acts.Restart tail) a h = rw (number-back agent a, bytes-back tail h) refl
act-back p agent (acts.Break call count) a h =
    rw (number-back agent a, call-back call, number-back count h.1, between-back 1 18446744073709551615 count h.0 (omega (arith, h.1))) refl
act-back p agent (acts.Close now) a h = rw (number-back agent a, number-back now h) refl
act-back p agent _ a h = rw (number-back agent a) refl

pub action-back : (p : Parsed) (action : Action) → IsSayable action → said_by p (action_words action) ≡ Ok (with_action p action)
unfolding command_of injection_of bytes_in
action-back p (Inject bytes) h = rw (bytes-back bytes h) refl
action-back p (Of agent act) h = act-back p agent act h.0 h.1
