-- What each export does to the ideal agent that a session follows, and to its host's file.
use Rattle.std.specs.Prelude.{◌≡◌, ◌≢◌, ◌++◌, ◌∷◌, [], ℕ, Bool, false, true, List, Some, length}
use Rattle.serf_snapshot.specs.Device.{fresh_device}
use Rattle.serf_snapshot.specs.AppendsLine.{Kept}
use Rattle.serf_window.specs.Texts.{event_of}
use Rattle.serf_agent.specs.Calls.{Call, MayEnd, ended}
use Rattle.serf_agent.specs.Events.{fire}
use Rattle.serf_agent.specs.Ideal.{IdealAgent}
use Rattle.serf_agent.specs.Lives.{Opens, after}
use Rattle.serf_agent.specs.Once.{IsOnce}
use Rattle.serf_agent.specs.Queries.{fire_query}
use Rattle.serf_agent.specs.Receive.{receive}
use Rattle.serf_agent.specs.Restart.{HasPast}
use Rattle.serf_agent.specs.Sound.{IsSound}
use Rattle.serf_agent.specs.States.{compact, save}
use Rattle.serf_agent.specs.declared.outcome.QueryParams.{QueryParams}
use Rattle.serf_agent.specs.View.{view_of}
use Rattle.serf_agent_c.specs.declared.burst_outcome.BurstOutcome.{BurstOutcome}
use Rattle.serf_agent_c.specs.declared.burst_outcome.BurstOutcome.TheVariants as burst_outcomes
use Rattle.serf_agent_c.specs.declared.code.Code.{Code}
use Rattle.serf_agent_c.specs.declared.code.Code.TheVariants.{Done}
use Rattle.serf_agent_c.specs.declared.call_result.CallResult.{CallResult}
use Rattle.serf_agent_c.specs.declared.call_result.CallResult.TheVariants as call_results
use Rattle.serf_agent_c.specs.declared.heads.Params.{Params}
use Rattle.serf_agent_c.specs.declared.heads.Settings.{Settings}
use Rattle.serf_agent_c.specs.declared.session.Session.{Session}
use Rattle.serf_agent_c.specs.Asking.{params_of}
use Rattle.serf_agent_c.specs.Bursts as bursts
use Rattle.serf_agent_c.specs.Bursts.{IsFlushed, no_failure}
use Rattle.serf_agent_c.specs.Codes.{number_of}
use Rattle.serf_agent_c.specs.Hosts.{Deed, Host, MayHost, Burst, Compact, Fire, Query, Receive, Save, Says, first_host, hosted, text_at}
use Rattle.serf_agent.specs.Config.{is_sound}
use Rattle.serf_agent_c.specs.Opening.{GoesOn, IsFresh, config_of}
use Rattle.serf_agent_c.specs.Reads.{GivesNothing}
use Rattle.serf_agent_c.specs.Sessions.{is_ready}
use Rattle.serf_agent_c.specs.Texts.{pending_bytes, text_of}

-- The ideal agent that a session with this file follows: its snapshot's durable text is the file together with the
-- pending bytes.
pub record Follows (i : IdealAgent) (file : List ℕ) (s : Session) : Type 0 where
  pub state : s.agent.concrete ≡ view_of i
  pub sound : IsSound i
  pub calm : i.snapshot.plan ≡ Some no_failure
  pub flushed : IsFlushed s.agent.device
  pub disk : i.snapshot.durable ≡ Some (text_at file s)

-- A plain call: either nothing was done and there is no result, or the ideal agent took the step and its answer is the
-- result.
pub data Went {R : Type 0} (call_result : R → CallResult) (i : IdealAgent) (call : Call R) (file : List ℕ) (s t : Session) : Type 0 where
  waits : is_ready s ≡ false → t ≡ s → Went call_result i call file s t
  rests : is_ready s ≡ true → Follows i file t → GivesNothing t.call_result → Went call_result i call file s t
  goes : is_ready s ≡ true → MayEnd i call Kept → t.call_result ≡ call_result (ended i call Kept).answer → Follows (ended i call Kept).agent file t → Went call_result i call file s t

-- A call of a burst: either there was no memory for it, or the ideal agent took the step and its answer waits after the
-- outcomes that waited before.
pub data WentInBurst {R : Type 0} (burst_outcome : R → BurstOutcome) (i : IdealAgent) (call : Call R) (file : List ℕ) (s t : Session) : Type 0 where
  lost : Follows i file t → t.burst.items ≡ s.burst.items → WentInBurst burst_outcome i call file s t
  made : MayEnd i call Kept → Follows (ended i call Kept).agent file t → t.burst.items ≡ s.burst.items ++ burst_outcome (ended i call Kept).answer ∷ [] → WentInBurst burst_outcome i call file s t

-- A compaction: either nothing was done, or the ideal agent took the step, and its whole text will replace the file's.
pub data WentToCompact (i : IdealAgent) (file : List ℕ) (s t : Session) (code : Code) : Type 0 where
  pauses : is_ready s ≡ false → t ≡ s → WentToCompact i file s t code
  stays : is_ready s ≡ true → code ≢ Done → Follows i file t → WentToCompact i file s t code
  renewed : is_ready s ≡ true → code ≡ Done → MayEnd i (compact i) Kept → Follows (ended i (compact i) Kept).agent file t → t.replaces ≡ true → (ended i (compact i) Kept).agent.snapshot.durable ≡ Some (pending_bytes t.agent.device t.written) → WentToCompact i file s t code

pub record HostSteps : Type 0 where
  pub fires : (name payload : List ℕ) (coalesce : Bool) (s t : Session) (code : Code) (i : IdealAgent) (file : List ℕ) → Says (Fire name payload coalesce) s t code → Follows i file s → Went (λ r. call_results.Fired r) i (fire i (event_of name payload) coalesce) file s t
  pub receives : (tags : Bool) (now : ℕ) (packet : List ℕ) (s t : Session) (code : Code) (i : IdealAgent) (file : List ℕ) → Says (Receive tags now packet) s t code → Follows i file s → Went (λ r. call_results.Received r) i (receive tags i now packet) file s t
  pub asks : (now id : ℕ) (name payload addr : List ℕ) (params : Params) (s t : Session) (code : Code) (i : IdealAgent) (file : List ℕ) → Says (Query now id name payload addr params) s t code → Follows i file s → Went (λ r. call_results.QueryFired r) i (fire_query i now id name payload (params_of s.filters addr params)) file s t
  pub saves : (s t : Session) (code : Code) (i : IdealAgent) (file : List ℕ) → Says Save s t code → Follows i file s → Went (λ r. call_results.LineAppended r) i (save i) file s t
  pub compacts : (s t : Session) (code : Code) (i : IdealAgent) (file : List ℕ) → Says Compact s t code → Follows i file s → WentToCompact i file s t code
  pub fires_in_burst : (name payload : List ℕ) (coalesce : Bool) (s t : Session) (code : Code) (i : IdealAgent) (file : List ℕ) → Says (Burst (bursts.Fires name payload coalesce)) s t code → Follows i file s → WentInBurst (λ r. burst_outcomes.Fired r) i (fire i (event_of name payload) coalesce) file s t
  pub receives_in_burst : (tags : Bool) (now : ℕ) (packet : List ℕ) (s t : Session) (code : Code) (i : IdealAgent) (file : List ℕ) → Says (Burst (bursts.Receives tags now packet)) s t code → Follows i file s → WentInBurst (λ r. burst_outcomes.Received r) i (receive tags i now packet) file s t
  pub asks_in_burst : (now id : ℕ) (name payload : List ℕ) (params : QueryParams) (s t : Session) (code : Code) (i : IdealAgent) (file : List ℕ) → Says (Burst (bursts.Asks now id name payload params)) s t code → Follows i file s → WentInBurst (λ r. burst_outcomes.QueryFired r) i (fire_query i now id name payload params) file s t
  -- the host's confirmation
  pub writes : (s t : Session) (i : IdealAgent) (file : List ℕ) → t.written ≡ length (text_of s.agent.device) → t.replaces ≡ false → t.agent ≡ s.agent → Follows i file s → Follows i (text_at file s) t
  -- a kill, and then the opening of the agent to which the host reverts
  pub opens : (name : List ℕ) (settings : Settings) (text : List ℕ) (t : Session) (i : IdealAgent) → IsSound i → HasPast (config_of name settings) i text → GoesOn name settings text t → IsFresh text t
      → Follows (after i (Opens (config_of name settings) text (fresh_device text))) text t

-- An agent that forgets nothing and that a host's session follows: it remembers as handed out whatever the getters may
-- have returned.
pub record HasIdeal (h : Host) : Type 0 where
  pub agent : IdealAgent
  pub follows : Follows agent h.file h.session
  pub knows : IsOnce agent.events.history h.given
  pub knows_queries : IsOnce agent.queries.history h.queries

-- A host always has one, whatever it did and whenever it was killed. So each call returns what this agent answers
-- (`HostSteps`).
abbrev pub GivesExactly : Type 0
GivesExactly =
    (name : List ℕ) (settings : Settings) (text : List ℕ) (t : Session) (deeds : List Deed) → is_sound (config_of name settings) ≡ true → GoesOn name settings text t → IsFresh text t → MayHost name (first_host text t) deeds
    → HasIdeal (hosted (first_host text t) deeds)

-- No two codes have the same number, so the clauses of one export speak about the same code.
abbrev pub CodesDiffer : Type 0
CodesDiffer = (c d : Code) → number_of c ≡ number_of d → c ≡ d
