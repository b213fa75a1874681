-- The text of a schedule is read back.
use Rattle.serf_schedule.proofs.TextNames.{◌≡◌, ◌+◌, ◌<◌, ◌^◌, ◌∙◌, ℕ, List, [], ◌∷◌, ◌++◌, length, decimal, Bool, true, false, Option, Some, None, Ok, refl, sym, ap, subst, arith, codes, append_assoc, cond, ◌==◌, ◌&&◌, slice_index, signed_decimal, AllByRecursion, flat_map, slice_split, common_steps, append-nil, recursion_from_All, IsBytes, Config, QueryParams, default_query_limit, default_response_limit, is_sound, Action, Deed, SinkCall, Append, Flush, ReplaceOld, ReplaceNew, AreConfigs, has_name, twice_after, command_of, Parsed, after_line, agent_of, is_agent_count, limit_in, per_time_in, said_by, with_action, after_lines, schedule_of, flag_text, hex_text, bytes_in, mode_in, mode_of, number_in}
use Rattle.serf_schedule.proofs.Names.{All, NoneBadIsSound, Inject, Of, verb_word, IsWord, AreSayable, HasByteName, IsActSayable, IsSayable, act_words, action_words, agent_words, flags_of, join_word, mode_word, schedule_text, sink_call_word, spaced, agent_text}
use Rattle.serf_model.specs.declared.action.Act.TheVariants as acts
use Rattle.serf_schedule.specs.ScheduleText.{action_text}
use Rattle.serf_schedule.proofs.ActionsBack.{action-back}
use Rattle.serf_schedule.proofs.LinesBack.{body, line-off, words-back}
use Rattle.serf_schedule.proofs.PlainWords.{hex-word, hex-words, number-word}
use Rattle.serf_schedule.proofs.WordsBack.{bytes-back, number-back}

-- Agents

-- the word for settings that ignore old events or don't, and that keep events or don't
abbrev mode_by : Bool → Bool → List ℕ
mode_by ignores keeps = cond keeps (cond ignores (codes "ignore+events") (codes "keep+events")) (cond ignores (codes "ignore") (codes "keep"))

mode-back : (ignores keeps : Bool) → mode_of (mode_by ignores keeps) ≡ Some (record { ignore_old = ignores; keep_events = keeps })
mode-back true true = refl
mode-back true false = refl
mode-back false true = refl
mode-back false false = refl

-- an agent's numbers have 64 bits
record AreNumbers (c : Config) : Type 0 where
  pub events : c.event_buffer < 2 ^ 64
  pub queries : c.query_buffer < 2 ^ 64
  pub limit : c.event_limit < 2 ^ 64
  pub responders : c.responders < 2 ^ 64
  pub per_time : c.per_time < 2 ^ 64
  pub query_limit : c.query_limit < 2 ^ 64
  pub response_limit : c.response_limit < 2 ^ 64

numbers-fit : (c : Config) → is_sound c ≡ true → AreNumbers c
numbers-fit c h = record {
  events = grind (arith, common_steps);
  queries = grind (arith, common_steps);
  limit = grind (arith, common_steps);
  responders = grind (arith, common_steps);
  per_time = grind (arith, common_steps);
  query_limit = grind (arith, common_steps);
  response_limit = grind (arith, common_steps);
}

-- whether both limits of packets are the default
abbrev has_defaults : Config → Bool
has_defaults c = (c.query_limit == default_query_limit) && (c.response_limit == default_response_limit)

-- the words of an agent, with or without its limits
abbrev words_by : Config → Bool → List (List ℕ)
words_by c plain = codes "agent" ∷ hex_text c.name ∷ decimal c.event_buffer ∷ decimal c.query_buffer ∷ decimal c.event_limit
    ∷ decimal c.responders ∷ mode_word c ∷ decimal c.per_time ∷ cond plain [] (decimal c.query_limit ∷ decimal c.response_limit ∷ [])

counted : (c : Config) (plain : Bool) → (is_agent_count (length (words_by c plain)) ≡ true) × ((length (words_by c plain) == 7) ≡ false)
counted c true = (refl, refl)
counted c false = (refl, refl)

query-limit-back : (c : Config) (plain : Bool) → has_defaults c ≡ plain → AreNumbers c → limit_in 9 default_query_limit (words_by c plain) ≡ Ok c.query_limit
unfolding limit_in number_in
query-limit-back c true is n = let e : c.query_limit ≡ default_query_limit = grind (arith, common_steps) in ap Ok (sym e)
query-limit-back c false is n = rw (number-back c.query_limit n.query_limit) refl

response-limit-back : (c : Config) (plain : Bool) → has_defaults c ≡ plain → AreNumbers c → limit_in 10 default_response_limit (words_by c plain) ≡ Ok c.response_limit
unfolding limit_in number_in
response-limit-back c true is n = let e : c.response_limit ≡ default_response_limit = grind (arith, common_steps) in ap Ok (sym e)
response-limit-back c false is n = rw (number-back c.response_limit n.response_limit) refl

agent-back : (c : Config) (plain : Bool) → has_defaults c ≡ plain → AreNumbers c → IsBytes c.name → agent_of (words_by c plain) ≡ Ok c
unfolding agent_of per_time_in number_in bytes_in mode_in
agent-back c plain is n h =
    let count = counted c plain in
    rw (
      count.1,
      bytes-back c.name h,
      number-back c.event_buffer n.events,
      number-back c.query_buffer n.queries,
      number-back c.event_limit n.limit,
      number-back c.responders n.responders,
      mode-back c.ignore_old c.keep_events,
      number-back c.per_time n.per_time,
      query-limit-back c plain is n,
      response-limit-back c plain is n,
    ) refl

agent-said : (before : List Config) (c : Config) → is_sound c ≡ true → IsBytes c.name → has_name before c.name ≡ false
    → said_by (record { configs = before; actions = [] }) (agent_words c) ≡ Ok (record { configs = before ++ c ∷ []; actions = [] })
unfolding command_of
agent-said before c sound bytes free =
    let count = counted c (has_defaults c) in
    rw (count.0, agent-back c (has_defaults c) refl (numbers-fit c sound) bytes, sound, free) refl

-- A line contains the words that are written unchanged

mode-plain : (ignores keeps : Bool) → IsWord (mode_by ignores keeps)
mode-plain true true = record { some = omega arith; plain = refl }
mode-plain true false = record { some = omega arith; plain = refl }
mode-plain false true = record { some = omega arith; plain = refl }
mode-plain false false = record { some = omega arith; plain = refl }

join-plain : (b : Bool) → IsWord (join_word b)
join-plain true = record { some = omega arith; plain = refl }
join-plain false = record { some = omega arith; plain = refl }

flag-plain : (b : Bool) → IsWord (flag_text b)
flag-plain true = record { some = omega arith; plain = refl }
flag-plain false = record { some = omega arith; plain = refl }

call-plain : (c : SinkCall) → IsWord (sink_call_word c)
call-plain Append = record { some = omega arith; plain = refl }
call-plain Flush = record { some = omega arith; plain = refl }
call-plain ReplaceOld = record { some = omega arith; plain = refl }
call-plain ReplaceNew = record { some = omega arith; plain = refl }

limits-plain : (c : Config) (plain : Bool) → AreNumbers c → AllByRecursion IsWord (cond plain [] (decimal c.query_limit ∷ decimal c.response_limit ∷ []))
limits-plain c true n = tt
limits-plain c false n = (number-word c.query_limit n.query_limit, (number-word c.response_limit n.response_limit, tt))

agent-plain : (c : Config) → AreNumbers c → IsBytes c.name → AllByRecursion IsWord (agent_words c)
agent-plain c n h = (
  record { some = omega arith; plain = refl },
  (
    hex-word c.name h,
    (
      number-word c.event_buffer n.events,
      (
        number-word c.query_buffer n.queries,
        (
          number-word c.event_limit n.limit,
          (number-word c.responders n.responders, (mode-plain c.ignore_old c.keep_events, (number-word c.per_time n.per_time, limits-plain c (has_defaults c) n))),
        ),
      ),
    ),
  ),
)

flags-fit : (a b : Bool) → cond a 1 0 + cond b 2 0 < 2 ^ 64
flags-fit true true = omega arith
flags-fit true false = omega arith
flags-fit false true = omega arith
flags-fit false false = omega arith

timeout-plain : (params : QueryParams) → AreSayable params → IsWord (signed_decimal params.timeout)
timeout-plain params h = subst (λ z. IsWord (signed_decimal z)) (sym h.timeout) (number-word h.nanoseconds (omega (arith, h.timeout_fits)))

verb-plain : (act : Deed) → IsWord (verb_word act)
verb-plain (acts.Fire name payload coalesce) = record { some = omega arith; plain = refl }
verb-plain _ = record { some = omega arith; plain = refl }

words-plain : (act : Deed) → IsActSayable act → AllByRecursion IsWord (act_words None act)
words-plain (acts.Fire name payload coalesce) h = (hex-word name h.0, (hex-word payload h.1, (flag-plain coalesce, tt)))
words-plain (acts.Deliver packet now) h = (number-word packet h.0, (number-word now h.1, tt))
words-plain (acts.Merge packet join) h = (number-word packet h, (join-plain join, tt))
words-plain (acts.Query q) h = (
  number-word q.moment h.moment,
  (
    number-word q.id (omega (arith, h.id)),
    (
      hex-word q.name h.name,
      (
        hex-word q.payload h.payload,
        (
          timeout-plain q.params h.params,
          (
            number-word (flags_of q.params) (flags-fit q.params.want_ack q.params.no_broadcast),
            hex-words q.params.filters (recursion_from_All IsBytes q.params.filters h.params.filters),
          ),
        ),
      ),
    ),
  ),
)
words-plain (acts.Respond handed now payload) h = (number-word handed h.0, (number-word now h.1, (hex-word payload h.2, tt)))
words-plain (acts.Restart tail) h = (hex-word tail h, tt)
words-plain (acts.Break call count) h = (call-plain call, (number-word count h.1, tt))
words-plain (acts.Close now) h = (number-word now h, tt)
words-plain _ h = tt

action-plain : (a : Action) → IsSayable a → AllByRecursion IsWord (action_words a)
action-plain (Inject bytes) h = (record { some = omega arith; plain = refl }, (hex-word bytes h, tt))
action-plain (Of agent act) h = (verb-plain act, (number-word agent h.0, words-plain act h.1))

-- Lines

some-words : (word : List ℕ) (words : List (List ℕ)) → (length (word ∷ words) == 0) ≡ false
some-words word words = grind (arith, common_steps)

-- a line that isn't a comment says what its words say
line-says : (p : Parsed) (word : List ℕ) (words : List (List ℕ)) → AllByRecursion IsWord (word ∷ words)
    → (slice_index (word ++ spaced words) 0 == 35) ≡ false → after_line p (word ++ spaced words) ≡ said_by p (word ∷ words)
unfolding after_line
line-says p word words ws plain = rw (plain, words-back word words ws, some-words word words) refl

-- the line of an action never begins like a comment
no-comment : (a : Action) → (slice_index (body (action_words a)) 0 == 35) ≡ false
no-comment (Inject bytes) = refl
no-comment (Of agent (acts.Fire name payload coalesce)) = refl
no-comment (Of agent _) = refl

body-says : (p : Parsed) (words : List (List ℕ)) → 0 < length words → AllByRecursion IsWord words → (slice_index (body words) 0 == 35) ≡ false
    → after_line p (body words) ≡ said_by p words
body-says p [] some ws plain = absurd (omega arith)
body-says p (word ∷ words) some ws plain = line-says p word words ws plain

has-command : (a : Action) → 0 < length (action_words a)
has-command (Inject bytes) = omega arith
has-command (Of agent act) = omega arith

action-line-back : (p : Parsed) (a : Action) → IsSayable a → after_line p (body (action_words a)) ≡ Ok (with_action p a)
action-line-back p a h = body-says p (action_words a) (has-command a) (action-plain a h) (no-comment a) ∙ action-back p a h

agent-line-back : (before : List Config) (c : Config) → is_sound c ≡ true → IsBytes c.name → has_name before c.name ≡ false
    → after_line (record { configs = before; actions = [] }) (body (agent_words c)) ≡ Ok (record { configs = before ++ c ∷ []; actions = [] })
agent-line-back before c sound bytes free =
    body-says (record { configs = before; actions = [] }) (agent_words c) (omega arith) (agent-plain c (numbers-fit c sound) bytes) refl
    ∙ agent-said before c sound bytes free

-- The whole text

one-action : (n : ℕ) (p : Parsed) (a : Action) (rest : List ℕ) → IsSayable a
    → after_lines n p (slice_split (λ b. b == 10) (action_text a ++ rest)) ≡ after_lines (n + 1) (with_action p a) (slice_split (λ b. b == 10) rest)
unfolding action_text
one-action n p a rest h = rw (line-off (action_words a) rest (action-plain a h), action-line-back p a h) refl

one-agent : (n : ℕ) (before : List Config) (c : Config) (rest : List ℕ) → is_sound c ≡ true → IsBytes c.name → has_name before c.name ≡ false
    → after_lines n (record { configs = before; actions = [] }) (slice_split (λ b. b == 10) (agent_text c ++ rest))
    ≡ after_lines (n + 1) (record { configs = before ++ c ∷ []; actions = [] }) (slice_split (λ b. b == 10) rest)
unfolding agent_text
one-agent n before c rest sound bytes free =
    rw (line-off (agent_words c) rest (agent-plain c (numbers-fit c sound) bytes), agent-line-back before c sound bytes free) refl

last-line : (n : ℕ) (p : Parsed) → after_lines n p (slice_split (λ b. b == 10) []) ≡ Ok p
unfolding after_line
last-line n p = refl

actions-back : (n : ℕ) (p : Parsed) (actions : List Action) → AllByRecursion IsSayable actions
    → after_lines n p (slice_split (λ b. b == 10) (flat_map action_text actions)) ≡ Ok (record p { actions = p.actions ++ actions })
actions-back n p [] h = last-line n p ∙ ap (λ done. Ok (record p { actions = done })) (sym (append-nil p.actions))
actions-back n p (a ∷ rest) h =
    one-action n p a (flat_map action_text rest) h.0 ∙ actions-back (n + 1) (with_action p a) rest h.1
    ∙ ap (λ done. Ok (record p { actions = done })) (append_assoc p.actions (a ∷ []) rest)

not-some : (b : Bool) (n : ℕ) (o : Option ℕ) → cond b (Some n) o ≡ None → b ≡ false
not-some true n o h = absurd (cc h)
not-some false n o h = refl

agents-back : (n : ℕ) (before agents : List Config) (rest : List ℕ) (actions : List Action)
    → twice_after before agents ≡ None → AllByRecursion (λ c. is_sound c ≡ true) agents → AllByRecursion HasByteName agents
    → ((m : ℕ) (configs : List Config) → after_lines m (record { configs = configs; actions = [] }) (slice_split (λ b. b == 10) rest) ≡ Ok (record { configs = configs; actions = actions }))
    → after_lines n (record { configs = before; actions = [] }) (slice_split (λ b. b == 10) (flat_map agent_text agents ++ rest))
    ≡ Ok (record { configs = before ++ agents; actions = actions })
agents-back n before [] rest actions names sound bytes more =
    more n before ∙ ap (λ cs. Ok (record { configs = cs; actions = actions })) (sym (append-nil before))
agents-back n before (c ∷ cs) rest actions names sound bytes more =
    let free : has_name before c.name ≡ false = not-some (has_name before c.name) (length before) (twice_after (before ++ c ∷ []) cs) names in
    let later : twice_after (before ++ c ∷ []) cs ≡ None = rw free at names in
    ap (λ t. after_lines n (record { configs = before; actions = [] }) (slice_split (λ b. b == 10) t)) (append_assoc (agent_text c) (flat_map agent_text cs) rest)
    ∙ one-agent n before c (flat_map agent_text cs ++ rest) sound.0 bytes.0 free
    ∙ agents-back (n + 1) (before ++ c ∷ []) cs rest actions later sound.1 bytes.1 more
    ∙ ap (λ cs. Ok (record { configs = cs; actions = actions })) (append_assoc before (c ∷ []) cs)

-- the text of a schedule stands for this schedule
pub reads_back : NoneBadIsSound → (p : Parsed) → AreConfigs p.configs → All HasByteName p.configs → All IsSayable p.actions → schedule_of (schedule_text p) ≡ Ok p
reads_back all-sound p ok bytes sayable =
    agents-back 1 [] p.configs (flat_map action_text p.actions) p.actions ok.names (all-sound p.configs ok.sound) (recursion_from_All HasByteName p.configs bytes)
    (λ m configs. actions-back m (record { configs = configs; actions = [] }) p.actions (recursion_from_All IsSayable p.actions sayable))
