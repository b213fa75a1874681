-- What a line adds to the schedule before it.
use Rattle.serf_schedule.proofs.Names.{Bool, Err, List, None, Ok, Option, Result, Some, [], ap, arith, cond, false, inl, inr, length, nat_lt, not, refl, sym, true, ℕ, ◌<◌, ◌==◌, ◌∷◌, ◌≡◌, nat_tests, IfOk, ◌>>=◌, word_at, words_of, Cause, BadConfig, LateAgent, NameTwice, WordCount, is_sound, Config, has_name, Action, count_of, command_of, AddsSame, Grows, with_turn, LateLinesAddSame, LinesGrow, Parsed, act_of, add_action, add_agent, by_agent, command_line, is_agent_count, is_skipped, said_by, after_line, agent_of, injection_of, query_of, Command, Act, Agent, Query}
use Rattle.std.proofs.Common.{append-nil}
use Rattle.std.specs.Prelude.{take, drop}
use Rattle.serf_schedule.specs.declared.command.Command.TheVariants.{Inject}

-- ---- steps that may fail

if-ok : {A : Type 0} (P : A → Type 0) (b : Bool) (e : Cause) (r : Result A Cause) → IfOk r P → IfOk (cond b (Err e) r) P
if-ok P true e r h = tt
if-ok P false e r h = h

next-ok : {A B : Type 0} (P : B → Type 0) (r : Result A Cause) (f : A → Result B Cause) → ((x : A) → IfOk (f x) P) → IfOk (r >>= f) P
next-ok P (Ok x) f h = h x
next-ok P (Err e) f h = tt

-- ---- at most one more action, and no agent after an action

no-turn : (p : Parsed) → p ≡ with_turn p None
no-turn p = ap (λ (turns : List Action). let q : Parsed = record { configs = p.configs; actions = turns } in q) (sym (append-nil p.actions))

no-actions : (actions : List Action) → nat_lt 0 (length actions) ≡ false → actions ≡ []
no-actions [] is = refl
no-actions (a ∷ rest) is = let less : 0 < length (a ∷ rest) = omega arith in absurd (grind (arith, nat_tests))

late : (actions : List Action) → 0 < length actions → nat_lt 0 (length actions) ≡ true
late actions some = grind (arith, nat_tests)

grown-added : (before : Parsed) (r : Result Action Cause) → IfOk (r >>= add_action before) (Grows before)
grown-added before r = next-ok (Grows before) r (add_action before) (λ action. inr (Some action, refl))

grown-agent : (before : Parsed) (config : Config) → before.actions ≡ [] → IfOk (add_agent before config) (Grows before)
grown-agent before config none = if-ok (Grows before) (not (is_sound config)) BadConfig _ (if-ok (Grows before) (has_name before.configs config.name) NameTwice _ (inl (none, none)))

grown-command : (c : Option Command) (before : Parsed) (words : List (List ℕ)) → IfOk (command_line c before words) (Grows before)
grown-command None before words = tt
grown-command (Some Agent) before words = by (nat_lt 0 (length before.actions)) refl
  where
    by : (b : Bool) → nat_lt 0 (length before.actions) ≡ b → IfOk (cond b (Err LateAgent) (cond (not (is_agent_count (length words))) (Err WordCount) (agent_of words >>= add_agent before))) (Grows before)
    by true is = tt
    by false is =
        if-ok (Grows before) (not (is_agent_count (length words))) WordCount (agent_of words >>= add_agent before)
        (next-ok (Grows before) (agent_of words) (add_agent before) (λ config. grown-agent before config (no-actions before.actions is)))
grown-command (Some Query) before words =
    let first : List (List ℕ) = take 8 words in
    let rest : List (List ℕ) = drop 8 words in
    if-ok (Grows before) (nat_lt (length first) 8) WordCount (by_agent first (query_of first rest) >>= add_action before) (grown-added before (by_agent first (query_of first rest)))
grown-command (Some Inject) before words =
    if-ok (Grows before) (not (length words == 2)) WordCount (injection_of words >>= add_action before) (grown-added before (injection_of words))
grown-command (Some (Act verb)) before words =
    if-ok (Grows before) (not (length words == count_of verb)) WordCount (by_agent words (act_of verb words) >>= add_action before) (grown-added before (by_agent words (act_of verb words)))

pub grown : LinesGrow
unfolding after_line
grown before line = by (is_skipped line)
  where
    by : (b : Bool) → IfOk (cond b (Ok before) (said_by before (words_of line))) (Grows before)
    by true = inr (None, no-turn before)
    by false = grown-command (command_of (word_at 1 (words_of line))) before (words_of line)

-- ---- after an action, a line adds the same to every schedule

same-if : (p q : Parsed) (b : Bool) (e : Cause) (r s : Result Parsed Cause) → AddsSame p q r s → AddsSame p q (cond b (Err e) r) (cond b (Err e) s)
same-if p q true e r s h = refl
same-if p q false e r s h = h

same-added : (p q : Parsed) (r : Result Action Cause) → AddsSame p q (r >>= add_action p) (r >>= add_action q)
same-added p q (Ok action) = (Some action, refl, refl)
same-added p q (Err e) = refl

same-command : (c : Option Command) (p q : Parsed) (words : List (List ℕ)) → 0 < length p.actions → 0 < length q.actions → AddsSame p q (command_line c p words) (command_line c q words)
same-command None p q words m n = refl
same-command (Some Agent) p q words m n = rw (late p.actions m, late q.actions n) refl
same-command (Some Query) p q words m n =
    let first : List (List ℕ) = take 8 words in
    let rest : List (List ℕ) = drop 8 words in
    let said = by_agent first (query_of first rest) in
    same-if p q (nat_lt (length first) 8) WordCount (said >>= add_action p) (said >>= add_action q) (same-added p q said)
same-command (Some Inject) p q words m n =
    let said = injection_of words in
    same-if p q (not (length words == 2)) WordCount (said >>= add_action p) (said >>= add_action q) (same-added p q said)
same-command (Some (Act verb)) p q words m n =
    let said = by_agent words (act_of verb words) in
    same-if p q (not (length words == count_of verb)) WordCount (said >>= add_action p) (said >>= add_action q) (same-added p q said)

pub late-same : LateLinesAddSame
unfolding after_line
late-same p q line m n = by (is_skipped line)
  where
    by : (b : Bool) → AddsSame p q (cond b (Ok p) (said_by p (words_of line))) (cond b (Ok q) (said_by q (words_of line)))
    by true = (None, no-turn p, no-turn q)
    by false = same-command (command_of (word_at 1 (words_of line))) p q (words_of line) m n
