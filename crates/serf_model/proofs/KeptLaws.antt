-- Every run keeps all promises.
use Rattle.serf_model.proofs.Names.{List, arith, All, EventBody, SlotLaws, Config, Below, Run, run_of, start, KeepsPromises, AreConfigs, HasSizes, CanTell, Action}
use Rattle.std.specs.Prelude.{ℕ}
use Rattle.serf_model.proofs.AnswerLaws.{acked-once, replied-once}
use Rattle.serf_model.proofs.AnswerPromiseLaws.{counting-run, served-run}
use Rattle.serf_model.proofs.BoundLaws.{events-bounded, queries-bounded, windows-bounded, windows-start}
use Rattle.serf_model.proofs.CountingPromises.{counted-once, counting-start, open-hold}
use Rattle.serf_model.proofs.HandOutLaws.{entering-run, handing-out, messaging-run}
use Rattle.serf_model.proofs.PromiseLaws.{promised, query-fired}
use Rattle.serf_model.proofs.QueriesEntered.{query-only-fired}
use Rattle.serf_model.proofs.SentLaws.{sending-run}
use Rattle.serf_model.proofs.SettingsKept.{all-short}
use Rattle.serf_model.proofs.SentPromises.{open-sent}
use Rattle.serf_model.proofs.TakenLaws.{taking-run}
use Rattle.serf_model.proofs.TurnLaws.{at_each_nil}

pub kept : Below → SlotLaws EventBody → SlotLaws ℕ → (configs : List Config) (actions : List Action) → AreConfigs configs → CanTell configs actions → All HasSizes actions → KeepsPromises configs (run_of configs actions)
kept lower event_laws query_laws configs actions ok told sized =
    let r : Run = run_of configs actions in
    let short = all-short configs ok in
    let going = promised lower configs actions ok told in
    let out = handing-out lower configs actions in
    let counting = counting-run lower configs actions ok told in
    let served = served-run lower configs actions sized ok told in
    let taking = taking-run lower configs actions ok told in
    record {
      once = going.once;
      fired = going.only_fired;
      later = going.later;
      held = going.held;
      fired_alone = going.fired_alone;
      held_alone = going.held_alone;
      kept = going.kept;
      queries_kept = going.queries_kept;
      sent = (sending-run lower configs actions ok told sized).sent;
      taken = taking.taken;
      merged = taking.merged;
      query_once = going.query_once;
      query_later = going.query_later;
      query_handed = going.query_handed;
      query_fired = query-fired lower configs actions;
      query_only_fired = query-only-fired lower configs actions short sized;
      only_to_actor = out.to_actor;
      hands_out_given = out.given;
      new_is_handed = out.new;
      hands_out_entered = (entering-run lower configs actions).entered;
      messages_fired = (messaging-run lower configs actions short sized).fired;
      counted_once = counted-once r.cluster r.turns counting;
      counted_in_time = counting.in_time;
      counted_sent = counting.sent;
      open_queries = open-hold r counting;
      open_queries_sent = open-sent r counting;
      answers_made = served.made;
      acked_once = acked-once configs r.cluster r.turns served;
      replied_once = replied-once configs r.cluster r.turns served;
      events_bounded = events-bounded lower event_laws query_laws configs actions ok told;
      queries_bounded = queries-bounded lower event_laws query_laws configs actions ok told;
      windows_bounded = windows-bounded lower event_laws query_laws configs actions ok told;
    }

-- without turns, every promise holds
pub kept-start : SlotLaws EventBody → SlotLaws ℕ → (configs : List Config) → KeepsPromises configs (start configs)
kept-start event_laws query_laws configs = record {
  once = λ a i j d lt within. absurd (omega arith);
  fired = at_each_nil _;
  later = at_each_nil _;
  held = (at_each_nil _, at_each_nil _);
  fired_alone = λ none. at_each_nil _;
  held_alone = λ none. (at_each_nil _, at_each_nil _);
  kept = at_each_nil _;
  queries_kept = at_each_nil _;
  sent = at_each_nil _;
  taken = at_each_nil _;
  merged = at_each_nil _;
  query_once = λ a i j d lt within. absurd (omega arith);
  query_later = at_each_nil _;
  query_handed = λ a i j d lt within. absurd (omega arith);
  query_fired = at_each_nil _;
  query_only_fired = at_each_nil _;
  only_to_actor = at_each_nil _;
  hands_out_given = at_each_nil _;
  new_is_handed = at_each_nil _;
  hands_out_entered = at_each_nil _;
  messages_fired = at_each_nil _;
  counted_once = λ a ack i j d lt within. absurd (omega arith);
  counted_in_time = at_each_nil _;
  counted_sent = at_each_nil _;
  open_queries = open-hold (start configs) (counting-start configs);
  open_queries_sent = open-sent (start configs) (counting-start configs);
  answers_made = at_each_nil _;
  acked_once = λ a i j d lt within. absurd (omega arith);
  replied_once = λ a i j d lt within. absurd (omega arith);
  events_bounded = at_each_nil _;
  queries_bounded = at_each_nil _;
  windows_bounded = windows-start event_laws query_laws configs;
}
