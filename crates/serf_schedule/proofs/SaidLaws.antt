-- If something holds for each action that a line can have, it holds for all actions of a parsed schedule.
use Rattle.serf_schedule.proofs.Names.{Bool, Err, List, None, Ok, Option, Result, Some, [], cond, false, length, nat_lt, not, subst, true, ℕ, ◌+◌, ◌==◌, ◌∷◌, ◌≡◌, All-nil, All-push, slice_split, at_line, ◌>>=◌, word_at, words_of, number_in, Cause, BadConfig, LateAgent, NameTwice, WordCount, is_sound, Config, has_name, Action, count_of, command_of, Parsed, act_of, add_action, add_agent, by_agent, command_line, is_agent_count, is_skipped, said_by, after_line, agent_of, injection_of, query_of, after_lines, schedule_of, Command, Act, Agent, Query, Verb}
use Rattle.std.specs.Prelude.{All, take, drop}
use Rattle.serf_model.specs.declared.action.Act.{Act as Deed}
use Rattle.serf_model.specs.declared.action.Action.TheVariants as actions
use Rattle.serf_schedule.specs.declared.command.Command.TheVariants.{Inject}

-- ---- steps that may fail

-- this holds for the value, if there is one
abbrev pub AllOk : {A : Type 0} → (A → Type 0) → Result A Cause → Type 0
AllOk P (Ok x) = P x
AllOk P (Err e) = Unit {0}

pub if-ok : {A : Type 0} (P : A → Type 0) (b : Bool) (e : Cause) (r : Result A Cause) → AllOk P r → AllOk P (cond b (Err e) r)
if-ok P true e r h = tt
if-ok P false e r h = h

-- this holds for the value of the next step, whatever value the first step has
pub next-ok : {A B : Type 0} (P : B → Type 0) (r : Result A Cause) (f : A → Result B Cause) → ((x : A) → AllOk P (f x)) → AllOk P (r >>= f)
next-ok P (Ok x) f h = h x
next-ok P (Err e) f h = tt

pub next-ok_of : {A B : Type 0} (Q : A → Type 0) (P : B → Type 0) (r : Result A Cause) (f : A → Result B Cause) → AllOk Q r → ((x : A) → Q x → AllOk P (f x)) → AllOk P (r >>= f)
next-ok_of Q P (Ok x) f q h = h x q
next-ok_of Q P (Err e) f q h = tt

-- ---- an action

-- it holds for what an agent does, whichever agent does it
abbrev pub HoldsOf : (Action → Type 0) → Deed → Type 0
HoldsOf P act = (agent : ℕ) → P (actions.Of agent act)

-- it holds for each action that some words say
pub record IsSaid (P : Action → Type 0) : Type 0 where
  pub act : (verb : Verb) (words : List (List ℕ)) → AllOk (HoldsOf P) (act_of verb words)
  pub query : (words filters : List (List ℕ)) → AllOk (HoldsOf P) (query_of words filters)
  pub injection : (words : List (List ℕ)) → AllOk P (injection_of words)

said-by_agent : (P : Action → Type 0) (words : List (List ℕ)) (r : Result Deed Cause) → AllOk (HoldsOf P) r → AllOk P (by_agent words r)
said-by_agent P words r has = next-ok P (number_in 2 words) _ (λ agent. next-ok_of (HoldsOf P) P r _ has (λ act h. h agent))

-- ---- a line

abbrev pub HoldsOfAll : (Action → Type 0) → Parsed → Type 0
HoldsOfAll P p = All P p.actions

said-added : (P : Action → Type 0) (before : Parsed) (r : Result Action Cause) → HoldsOfAll P before → AllOk P r → AllOk (HoldsOfAll P) (r >>= add_action before)
said-added P before r all has = next-ok_of P (HoldsOfAll P) r (add_action before) has (λ action h. All-push P before.actions action all h)

said-agent : (P : Action → Type 0) (before : Parsed) (config : Config) → HoldsOfAll P before → AllOk (HoldsOfAll P) (add_agent before config)
said-agent P before config all = if-ok (HoldsOfAll P) (not (is_sound config)) BadConfig _ (if-ok (HoldsOfAll P) (has_name before.configs config.name) NameTwice _ all)

said-command : (P : Action → Type 0) → IsSaid P → (c : Option Command) (before : Parsed) (words : List (List ℕ)) → HoldsOfAll P before → AllOk (HoldsOfAll P) (command_line c before words)
said-command P is None before words all = tt
said-command P is (Some Agent) before words all =
    if-ok (HoldsOfAll P) (nat_lt 0 (length before.actions)) LateAgent (cond (not (is_agent_count (length words))) (Err WordCount) (agent_of words >>= add_agent before))
    (if-ok (HoldsOfAll P) (not (is_agent_count (length words))) WordCount (agent_of words >>= add_agent before) (next-ok (HoldsOfAll P) (agent_of words) (add_agent before) (λ config. said-agent P before config all)))
said-command P is (Some Query) before words all =
    let first : List (List ℕ) = take 8 words in
    let rest : List (List ℕ) = drop 8 words in
    let said = by_agent first (query_of first rest) in
    if-ok (HoldsOfAll P) (nat_lt (length first) 8) WordCount (said >>= add_action before) (said-added P before said all (said-by_agent P first (query_of first rest) (is.query first rest)))
said-command P is (Some Inject) before words all =
    if-ok (HoldsOfAll P) (not (length words == 2)) WordCount (injection_of words >>= add_action before) (said-added P before (injection_of words) all (is.injection words))
said-command P is (Some (Act verb)) before words all =
    let said = by_agent words (act_of verb words) in
    if-ok (HoldsOfAll P) (not (length words == count_of verb)) WordCount (said >>= add_action before) (said-added P before said all (said-by_agent P words (act_of verb words) (is.act verb words)))

said-line : (P : Action → Type 0) → IsSaid P → (before : Parsed) (line : List ℕ) → HoldsOfAll P before → AllOk (HoldsOfAll P) (after_line before line)
unfolding after_line
said-line P is before line all = by (is_skipped line)
  where
    by : (b : Bool) → AllOk (HoldsOfAll P) (cond b (Ok before) (said_by before (words_of line)))
    by true = all
    by false = said-command P is (command_of (word_at 1 (words_of line))) before (words_of line) all

-- ---- a text

said-lines : (P : Action → Type 0) → IsSaid P → (number : ℕ) (before after : Parsed) (lines : List (List ℕ)) → HoldsOfAll P before → after_lines number before lines ≡ Ok after → HoldsOfAll P after
said-lines P said number before after [] all is = let same : before ≡ after = cc is in subst (HoldsOfAll P) same all
said-lines P said number before after (line ∷ lines) all is = by (after_line before line) (said-line P said before line all) (λ p. said-lines P said (number + 1) p after lines) is
  where
    by : (r : Result Parsed Cause) → AllOk (HoldsOfAll P) r → ((p : Parsed) → HoldsOfAll P p → after_lines (number + 1) p lines ≡ Ok after → HoldsOfAll P after) → at_line number r (λ p. after_lines (number + 1) p lines) ≡ Ok after → HoldsOfAll P after
    by (Ok p) has rest e = rest p has e
    by (Err cause) has rest e = absurd (cc e)

pub holds-of-all : (P : Action → Type 0) → IsSaid P → (text : List ℕ) (schedule : Parsed) → schedule_of text ≡ Ok schedule → All P schedule.actions
holds-of-all P said text schedule is = said-lines P said 1 (record { configs = []; actions = [] }) schedule (slice_split (λ b. b == 10) text) (All-nil P) is
