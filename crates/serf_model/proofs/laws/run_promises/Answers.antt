use Rattle.serf_model.proofs.Names.{inl, run_of}
use Rattle.serf_model.proofs.AnswerLaws.{acked-once, replied-once}
use Rattle.serf_model.proofs.AnswerPromiseLaws.{counting-run, served-run}
use Rattle.serf_model.proofs.BoundLaws.{events-bounded, queries-bounded, windows-bounded}
use Rattle.serf_model.proofs.CountingPromises.{counted-once, open-hold}
use Rattle.serf_model.proofs.HandOutLaws.{entering-run, handing-out, messaging-run}
use Rattle.serf_model.proofs.KeptLaws.{kept, kept-start}
use Rattle.serf_model.proofs.PromiseLaws.{promised, query-fired}
use Rattle.serf_model.proofs.SentLaws.{sending-run}
use Rattle.serf_model.proofs.TakenLaws.{taking-run}
use Rattle.serf_model.proofs.QueriesEntered.{query-only-fired}
use Rattle.serf_model.proofs.laws.run_promises.Goals as goal

pub returns-clause-promises : goal.returns-clause-promises
returns-clause-promises c = (kept c.laws_below.ensures) c.slot_laws.ensures.events c.slot_laws.ensures.queries

pub returns-clause-start : goal.returns-clause-start
returns-clause-start c = kept-start c.slot_laws.ensures.events c.slot_laws.ensures.queries

pub returns-clause-once : goal.returns-clause-once
returns-clause-once c = λ configs actions ok told. ((promised c.laws_below.ensures) configs actions ok told).once

pub returns-clause-fired : goal.returns-clause-fired
returns-clause-fired c = λ configs actions ok told. ((promised c.laws_below.ensures) configs actions ok told).only_fired

pub returns-clause-later : goal.returns-clause-later
returns-clause-later c = λ configs actions ok told. ((promised c.laws_below.ensures) configs actions ok told).later

pub returns-clause-held : goal.returns-clause-held
returns-clause-held c = λ configs actions ok told. ((promised c.laws_below.ensures) configs actions ok told).held

pub returns-clause-fired_alone : goal.returns-clause-fired_alone
returns-clause-fired_alone c = λ configs actions ok none. ((promised c.laws_below.ensures) configs actions ok (inl none)).fired_alone none

pub returns-clause-held_alone : goal.returns-clause-held_alone
returns-clause-held_alone c = λ configs actions ok none. ((promised c.laws_below.ensures) configs actions ok (inl none)).held_alone none

pub returns-clause-kept : goal.returns-clause-kept
returns-clause-kept c = λ configs actions ok told. ((promised c.laws_below.ensures) configs actions ok told).kept

pub returns-clause-queries_kept : goal.returns-clause-queries_kept
returns-clause-queries_kept c = λ configs actions ok told. ((promised c.laws_below.ensures) configs actions ok told).queries_kept

pub returns-clause-sent : goal.returns-clause-sent
returns-clause-sent c = λ configs actions sized ok told. ((sending-run c.laws_below.ensures) configs actions ok told sized).sent

pub returns-clause-taken : goal.returns-clause-taken
returns-clause-taken c = λ configs actions ok told. ((taking-run c.laws_below.ensures) configs actions ok told).taken

pub returns-clause-merged : goal.returns-clause-merged
returns-clause-merged c = λ configs actions ok told. ((taking-run c.laws_below.ensures) configs actions ok told).merged

pub returns-clause-query_once : goal.returns-clause-query_once
returns-clause-query_once c = λ configs actions ok told. ((promised c.laws_below.ensures) configs actions ok told).query_once

pub returns-clause-query_later : goal.returns-clause-query_later
returns-clause-query_later c = λ configs actions ok told. ((promised c.laws_below.ensures) configs actions ok told).query_later

pub returns-clause-query_handed : goal.returns-clause-query_handed
returns-clause-query_handed c = λ configs actions ok told. ((promised c.laws_below.ensures) configs actions ok told).query_handed

pub returns-clause-query_fired : goal.returns-clause-query_fired
returns-clause-query_fired c = (query-fired c.laws_below.ensures)

pub returns-clause-query_only_fired : goal.returns-clause-query_only_fired
returns-clause-query_only_fired c = (query-only-fired c.laws_below.ensures)

pub returns-clause-only_to_actor : goal.returns-clause-only_to_actor
returns-clause-only_to_actor c = λ configs actions. ((handing-out c.laws_below.ensures) configs actions).to_actor

pub returns-clause-hands_out_given : goal.returns-clause-hands_out_given
returns-clause-hands_out_given c = λ configs actions. ((handing-out c.laws_below.ensures) configs actions).given

pub returns-clause-new_is_handed : goal.returns-clause-new_is_handed
returns-clause-new_is_handed c = λ configs actions. ((handing-out c.laws_below.ensures) configs actions).new

pub returns-clause-hands_out_entered : goal.returns-clause-hands_out_entered
returns-clause-hands_out_entered c = λ configs actions. ((entering-run c.laws_below.ensures) configs actions).entered

pub returns-clause-messages_fired : goal.returns-clause-messages_fired
returns-clause-messages_fired c = λ configs actions short sized. ((messaging-run c.laws_below.ensures) configs actions short sized).fired

pub returns-clause-counted_once : goal.returns-clause-counted_once
returns-clause-counted_once c = λ configs actions ok told. counted-once (run_of configs actions).cluster (run_of configs actions).turns ((counting-run c.laws_below.ensures) configs actions ok told)

pub returns-clause-counted_in_time : goal.returns-clause-counted_in_time
returns-clause-counted_in_time c = λ configs actions ok told. ((counting-run c.laws_below.ensures) configs actions ok told).in_time

pub returns-clause-counted_sent : goal.returns-clause-counted_sent
returns-clause-counted_sent c = λ configs actions ok told. ((counting-run c.laws_below.ensures) configs actions ok told).sent

pub returns-clause-answers_made : goal.returns-clause-answers_made
returns-clause-answers_made c = λ configs actions sized ok told. ((served-run c.laws_below.ensures) configs actions sized ok told).made

pub returns-clause-acked_once : goal.returns-clause-acked_once
returns-clause-acked_once c = λ configs actions sized ok told. acked-once configs (run_of configs actions).cluster (run_of configs actions).turns ((served-run c.laws_below.ensures) configs actions sized ok told)

pub returns-clause-replied_once : goal.returns-clause-replied_once
returns-clause-replied_once c = λ configs actions sized ok told. replied-once configs (run_of configs actions).cluster (run_of configs actions).turns ((served-run c.laws_below.ensures) configs actions sized ok told)

pub returns-clause-events_bounded : goal.returns-clause-events_bounded
returns-clause-events_bounded c = (events-bounded c.laws_below.ensures) c.slot_laws.ensures.events c.slot_laws.ensures.queries

pub returns-clause-queries_bounded : goal.returns-clause-queries_bounded
returns-clause-queries_bounded c = (queries-bounded c.laws_below.ensures) c.slot_laws.ensures.events c.slot_laws.ensures.queries

pub returns-clause-windows_bounded : goal.returns-clause-windows_bounded
returns-clause-windows_bounded c = (windows-bounded c.laws_below.ensures) c.slot_laws.ensures.events c.slot_laws.ensures.queries

pub returns-clause-open_queries : goal.returns-clause-open_queries
returns-clause-open_queries c = λ configs actions ok told. open-hold (run_of configs actions) ((counting-run c.laws_below.ensures) configs actions ok told)
