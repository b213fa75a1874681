-- What an agent stores of the ideal agent, after each change.
use Rattle.serf_agent.proofs.Names.{Bool, List, Option, [], ap, false, sym, true, ℕ, ◌+◌, ◌∙◌, ◌≡◌, observed, EventBody, Device, min_in, Failed, opened, written, ClockKind, same_id, same_texts, slots_of, event_observed, IdealAgent, with_snapshot, first_concrete, first_track, KeptRestartLaws, events_reached, queries_reached, restarted_kept, query_observed, restarted, restarted_by, IsSound, ConcreteTrack, view_of_track, ConcreteState, concrete_with, view_of}
use Rattle.serf_snapshot.specs.declared.kind.ClockKind.TheVariants as kinds
use Rattle.serf_agent.proofs.TrackLaws.{of_life-none, view-observed}

-- what is stored at an opening is the view of the agent that was restarted with its settings
pub first-view : KeptRestartLaws → (i : IdealAgent) (text : List ℕ) (d : Device) → IsSound i → first_concrete i.config text (opened text d) ≡ view_of (restarted text (opened text d) i)
first-view kept i text d sound =
    let s = opened text d in
    λ k. record {
      config = i.config;
      member_clock = s.member_clock + 1;
      events = first-events i.config.keep_events k;
      queries = first-queries i.config.keep_events k;
      snapshot = s;
      fired_queries = [];
    }
  where
    first-events : (b : Bool) → first_track b same_texts i.config.event_buffer i.config.per_time (opened text d).event_clock (min_in kinds.Event text) (events_reached i.config (opened text d).event_clock text)
        ≡ view_of_track i.config.event_buffer (i.life + 1) (restarted_by b text (opened text d) i).events
    first-events true = λ k. record { clock = (restarted_kept text (opened text d) i).events.clock; minimum = (restarted_kept text (opened text d) i).events.minimum; slots = slots_of i.config.event_buffer (sym (kept.events_view i text (opened text d) sound) k) }
    first-events false = λ k. record { clock = (opened text d).event_clock + 1; minimum = (opened text d).event_clock + 1; slots = slots_of i.config.event_buffer (sym (of_life-none i.life i.events.history sound.events.lives) k) }

    first-queries : (b : Bool) → first_track b same_id i.config.query_buffer i.config.per_time (opened text d).query_clock (min_in kinds.Query text) (queries_reached i.config (opened text d).query_clock text)
        ≡ view_of_track i.config.query_buffer (i.life + 1) (restarted_by b text (opened text d) i).queries
    first-queries true = λ k. record { clock = (restarted_kept text (opened text d) i).queries.clock; minimum = (restarted_kept text (opened text d) i).queries.minimum; slots = slots_of i.config.query_buffer (sym (kept.queries_view i text (opened text d) sound) k) }
    first-queries false = λ k. record { clock = (opened text d).query_clock + 1; minimum = (opened text d).query_clock + 1; slots = slots_of i.config.query_buffer (sym (of_life-none i.life i.queries.history sound.queries.lives) k) }

-- the view after an event's time was observed
pub event_observed-view : (i : IdealAgent) (old : ConcreteState) (new : ConcreteTrack EventBody) (t : ℕ) → old ≡ view_of i → new.clock ≡ observed old.events.clock t → new.minimum ≡ old.events.minimum → new.slots ≡ old.events.slots
    → record { config = old.config; member_clock = old.member_clock; events = new; queries = old.queries; snapshot = old.snapshot; fired_queries = old.fired_queries } ≡ view_of (event_observed t i)
event_observed-view i old new t is clock minimum slots =
    let events = view-observed i.config.event_buffer i.life i.events old.events new t (ap (λ (s : ConcreteState). s.events) is) clock minimum slots in
    λ k. record { config = (is k).config; member_clock = (is k).member_clock; events = events k; queries = (is k).queries; snapshot = (is k).snapshot; fired_queries = (is k).fired_queries }

-- the view after a query's time was observed
pub query_observed-view : (i : IdealAgent) (old : ConcreteState) (new : ConcreteTrack ℕ) (t : ℕ) → old ≡ view_of i → new.clock ≡ observed old.queries.clock t → new.minimum ≡ old.queries.minimum → new.slots ≡ old.queries.slots
    → record { config = old.config; member_clock = old.member_clock; events = old.events; queries = new; snapshot = old.snapshot; fired_queries = old.fired_queries } ≡ view_of (query_observed t i)
query_observed-view i old new t is clock minimum slots =
    let queries = view-observed i.config.query_buffer i.life i.queries old.queries new t (ap (λ (s : ConcreteState). s.queries) is) clock minimum slots in
    λ k. record { config = (is k).config; member_clock = (is k).member_clock; events = (is k).events; queries = queries k; snapshot = (is k).snapshot; fired_queries = (is k).fired_queries }

-- the view after the sink failed when a line was appended
pub failed-view : (i : IdealAgent) (old new : ConcreteState) (kind : ClockKind) (t : ℕ) (durable : Option (List ℕ)) → old ≡ view_of i → new ≡ concrete_with (written kind t old.snapshot (Failed durable)) old → new ≡ view_of (with_snapshot (written kind t i.snapshot (Failed durable)) i)
failed-view i old new kind t durable is failed = failed ∙ ap (λ (s : ConcreteState). concrete_with (written kind t s.snapshot (Failed durable)) s) is
