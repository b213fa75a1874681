-- What a summary says about a run.
use Rattle.std.specs.Prelude.{◌≡◌, ℕ, ◌&&◌, nat_eq, Bool, List, length, map}
use Rattle.std.specs.Borrow.{Bor}
use Rattle.std.specs.Str.{bytes_eq}
use Rattle.std.specs.Cmp.Lexicographic.{pointwise}
use Rattle.indexmap.specs.IndexMap.{IndexMap, get, keys}
use Rattle.serf_model.specs.declared.line.EventLine.{EventLine}
use Rattle.serf_model.specs.declared.line.Line.{Line}
use Rattle.serf_replay.specs.declared.keys.EventKey.{EventKey}
use Rattle.serf_replay.specs.declared.tally.Frequency.{Frequency}
use Rattle.serf_schedule.specs.Show.{answer_words}
use Rattle.serf_replay.specs.Records.{hand_outs_from, is_event, numbered_from}
use Rattle.serf_replay.specs.declared.summary.Summary.{Summary}
use Rattle.serf_replay.specs.Tally.{firsts, frequency_in}

-- how keys are compared
abbrev pub event_key_eq : EventKey → EventKey → Bool
event_key_eq x y = nat_eq x.time y.time && (pointwise nat_eq x.name.items y.name.items && pointwise nat_eq x.payload.items y.payload.items)

-- an event: its time, its name and its payload
abbrev pub Event : Type 0
Event = ℕ × List ℕ × List ℕ

abbrev pub event_of : EventKey → Event
event_of k = (k.time, k.name.items, k.payload.items)

abbrev pub event_in : EventLine → Event
event_in e = (e.time, e.name, e.payload)

abbrev pub event_eq : Event → Event → Bool
event_eq x y = nat_eq x.0 y.0 && (bytes_eq x.1 y.1 && bytes_eq x.2 y.2)

-- One table has each event of these event lines, with how often it was handed out and at which action it was last. The
-- events are in the order in which they first occurred. The other table has the same for each agent.
pub record AreHandOuts {S R : Type 0} (agents : IndexMap ℕ Frequency S) (events : IndexMap EventKey Frequency R) (records : List (EventLine × ℕ)) : Type 0 where
  pub agents_are : (q : ℕ) → get nat_eq agents q ≡ frequency_in (λ e. nat_eq e.agent q) records
  pub events_are : (q : EventKey) → get event_key_eq events q ≡ frequency_in (is_event q) records
  pub agents_order : keys agents ≡ firsts nat_eq (map (λ n. n.0.agent) records)
  pub events_order : map event_of (keys events) ≡ firsts event_eq (map (λ n. event_in n.0) records)

-- the table of answers has the same for each answer
pub record AreAnswers {S : Type 0} (answers : IndexMap (Bor (List ℕ)) Frequency S) (records : List (Line × ℕ)) : Type 0 where
  pub answers_are : (q : Bor (List ℕ)) → get (λ x y. bytes_eq x.now y.now) answers q ≡ frequency_in (λ l. bytes_eq (answer_words l.answer) q.now) records
  pub answers_order : map (λ k. k.now) (keys answers) ≡ firsts bytes_eq (map (λ n. answer_words n.0.answer) records)

-- the summary has what these lines of actions show
pub record IsSummary (summary : Summary) (lines : List Line) : Type 0 where
  pub counted : summary.actions ≡ length lines
  pub answers : AreAnswers summary.answers (numbered_from 0 lines)
  pub hand_outs : AreHandOuts summary.agents summary.events (hand_outs_from 0 lines)
