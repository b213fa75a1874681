-- How a call of the ideal agent ends, depending on how the call of the real agent ended.
use Rattle.serf_agent.proofs.Names.{Bool, Err, List, None, Ok, Option, Result, Some, arith, false, length, nat_le, nat_lt, not, refl, subst, sym, ℕ, ◌-◌, ◌<◌, ◌^◌, ◌≡◌, ◌≤◌, lt-leb, ltb-false, or_parts, event_in, Message, Query, QueryResponse, UserEvent, foreign, push_pull, query, query_response, user_event, WireError, EventBody, Device, FailsLine, Failed, Kept, written, ClockKind, Ends, AppendsLine, Step, answers, admission, drawn, event_entered, event_observed, event_out, event_packet, fire, fire_error, fired_as, is_too_large, receive_event, received_as, texts_len, written_event, IdealAgent, with_fired_queries, with_snapshot, ack_if_passed, answer_ignore_reason, fired_query_at, counted_as, counts, fire_query, fired_query, handed_if_passed, has_flag, is_ack, is_full, is_no_timeout, is_too_large_query, no_broadcast_flag, query_admission, query_opened, query_at, query_entered, query_error, query_fired_as, query_observed, query_received_as, receive_query, receive_response, response_received_as, response_received_at, written_query, with_fired_query_at, SnapshotLaws, IsSound, Steps, MayAppendLine, bytes_with, device_appended, appended_with, AgentState, view_of, OpenQuery, FireError, Fired, FiredQuery, Outcome, QueryError, QueryParams, Reason, ReceiveError, SinkError}
use Rattle.serf_snapshot.specs.declared.kind.ClockKind.TheVariants as kinds
use Rattle.serf_agent.specs.declared.outcome.FireError.TheVariants as fires
use Rattle.serf_agent.specs.declared.outcome.Outcome.TheVariants as outcomes
use Rattle.serf_agent.specs.declared.outcome.QueryError.TheVariants as asks_errors
use Rattle.serf_agent.specs.Queries.{counted}
use Rattle.serf_agent.proofs.ConfigLaws.{limit-sound}
use Rattle.serf_agent.proofs.SoundLaws.{admission-new, sound-event_observed, sound-event_entered, sound-append_line_failed, sound-query_observed, sound-query_entered, query_admission-new, sound-counted, sound-query_opened}
use Rattle.serf_agent.proofs.TrackLaws.{later-fresh}

pub steps-ends : {R : Type 0} (i : IdealAgent) (step : Step R) (result : R) (old : Device) (new : AgentState) → result ≡ step.answer → new.concrete ≡ view_of step.agent → IsSound step.agent → new.device ≡ old → Steps i (Ends step) result old new
steps-ends i step result old new answers state sound device = record { writing = Kept; allowed = refl; answers = answers; state = state; sound = sound; device = device }

pub steps-answers : {R : Type 0} (i : IdealAgent) (answer result : R) (old : Device) (new : AgentState) → IsSound i → result ≡ answer → new.concrete ≡ view_of i → new.device ≡ old → Steps i (answers i answer) result old new
steps-answers i answer result old new sound same state device = record { writing = Kept; allowed = refl; answers = same; state = state; sound = sound; device = device }

pub steps-kept : {R : Type 0} (i : IdealAgent) (kind : ClockKind) (t : ℕ) (line : Option (List ℕ)) (step : Step R) (error result : R) (old : Device) (new : AgentState) → MayAppendLine kind t line i.snapshot Kept → result ≡ step.answer → new.concrete ≡ view_of (with_snapshot (appended_with kind t line i.snapshot Kept) step.agent) → IsSound (with_snapshot (appended_with kind t line i.snapshot Kept) step.agent)
    → new.device ≡ device_appended kind t line i.snapshot old → Steps i (AppendsLine kind t line step error) result old new
steps-kept i kind t line step error result old new may answers state sound device = record { writing = Kept; allowed = may; answers = answers; state = state; sound = sound; device = device }

pub steps-failed : SnapshotLaws → {R : Type 0} (i : IdealAgent) (kind : ClockKind) (t : ℕ) (line : Option (List ℕ)) (step : Step R) (error result : R) (old : Device) (new : AgentState) (durable : Option (List ℕ)) → IsSound i → MayAppendLine kind t line i.snapshot (Failed durable) → result ≡ error → new.concrete ≡ view_of (with_snapshot (written kind t i.snapshot (Failed durable)) i)
    → FailsLine old new.device (bytes_with kind t line i.snapshot) → Steps i (AppendsLine kind t line step error) result old new
steps-failed snapshots i kind t line step error result old new durable sound may answers state device = record { writing = Failed durable; allowed = may; answers = answers; state = state; sound = sound-append_line_failed snapshots kind t line durable i sound may; device = device }

-- ---- an event that is received

pub steps-event_ignored : (i : IdealAgent) (t : ℕ) (what : EventBody) (coalesce : Bool) (reason : Reason) (old : Device) (new : AgentState) → IsSound i → admission i t what ≡ Some reason → new.concrete ≡ view_of (event_observed t i) → new.device ≡ old → Steps i (receive_event i t what coalesce) (Ok (outcomes.Ignored reason)) old new
steps-event_ignored i t what flag reason old new sound says state device =
    subst (λ (r : Option Reason). Steps i (received_as r i t what flag) (Ok (outcomes.Ignored reason)) old new) (sym says) (steps-ends i _ _ old new refl state (sound-event_observed t i sound) device)

pub steps-event_entered : SnapshotLaws → (i : IdealAgent) (t : ℕ) (what : EventBody) (flag : Bool) (result : Result Outcome ReceiveError) (old : Device) (new : AgentState) → IsSound i → i.snapshot.stopped ≡ false → t < 2 ^ 64 - 1 → admission i t what ≡ None → MayAppendLine kinds.Event t (written_event i.config t what) i.snapshot Kept
    → result ≡ Ok (outcomes.Event (event_out t what flag)) → new.concrete ≡ view_of (with_snapshot (appended_with kinds.Event t (written_event i.config t what) i.snapshot Kept) (event_entered t what i)) → new.device ≡ device_appended kinds.Event t (written_event i.config t what) i.snapshot old → Steps i (receive_event i t what flag) result old new
steps-event_entered snapshots i t what flag result old new sound runs small says may answers state device =
    let parts = admission-new i t what says in
    subst (λ (r : Option Reason). Steps i (received_as r i t what flag) result old new) (sym says) (steps-kept i kinds.Event t (written_event i.config t what) _ _ result old new may answers state (sound-event_entered snapshots t what i sound runs small parts.0 parts.1) device)

pub steps-event_failed : SnapshotLaws → (i : IdealAgent) (t : ℕ) (what : EventBody) (flag : Bool) (durable : Option (List ℕ)) (result : Result Outcome ReceiveError) (old : Device) (new : AgentState) → IsSound i → admission i t what ≡ None → MayAppendLine kinds.Event t (written_event i.config t what) i.snapshot (Failed durable) → result ≡ Err SinkError
    → new.concrete ≡ view_of (with_snapshot (written kinds.Event t i.snapshot (Failed durable)) i) → FailsLine old new.device (bytes_with kinds.Event t (written_event i.config t what) i.snapshot) → Steps i (receive_event i t what flag) result old new
steps-event_failed snapshots i t what flag durable result old new sound says may answers state device =
    subst (λ (r : Option Reason). Steps i (received_as r i t what flag) result old new) (sym says) (steps-failed snapshots i kinds.Event t (written_event i.config t what) _ _ result old new durable sound may answers state device)

-- ---- an event that is fired

pub steps-fire_entered : SnapshotLaws → (i : IdealAgent) (what : EventBody) (flag : Bool) (result : Result Fired FireError) (old : Device) (new : AgentState) → IsSound i → i.snapshot.stopped ≡ false → i.events.clock < 2 ^ 64 - 1 → texts_len what ≤ 9216 → fire_error i what flag ≡ None → MayAppendLine kinds.Event i.events.clock (written_event i.config i.events.clock what) i.snapshot Kept
    → result ≡ Ok record { packet = event_packet i.events.clock what flag; handed = event_out i.events.clock what flag }
    → new.concrete ≡ view_of (with_snapshot (appended_with kinds.Event i.events.clock (written_event i.config i.events.clock what) i.snapshot Kept) (event_entered i.events.clock what i)) → new.device ≡ device_appended kinds.Event i.events.clock (written_event i.config i.events.clock what) i.snapshot old → Steps i (fire i what flag) result old new
steps-fire_entered snapshots i what flag result old new sound runs small short says may answers state device =
    subst (λ (r : Option FireError). Steps i (fired_as r i what flag) result old new) (sym says)
    (steps-kept i kinds.Event i.events.clock (written_event i.config i.events.clock what) _ _ result old new may answers state (sound-event_entered snapshots i.events.clock what i sound runs small short (later-fresh i.events.history i.events.clock what sound.events.below_clock)) device)

pub steps-fire_failed : SnapshotLaws → (i : IdealAgent) (what : EventBody) (flag : Bool) (durable : Option (List ℕ)) (result : Result Fired FireError) (old : Device) (new : AgentState) → IsSound i → fire_error i what flag ≡ None → MayAppendLine kinds.Event i.events.clock (written_event i.config i.events.clock what) i.snapshot (Failed durable) → result ≡ Err fires.SinkError
    → new.concrete ≡ view_of (with_snapshot (written kinds.Event i.events.clock i.snapshot (Failed durable)) i) → FailsLine old new.device (bytes_with kinds.Event i.events.clock (written_event i.config i.events.clock what) i.snapshot) → Steps i (fire i what flag) result old new
steps-fire_failed snapshots i what flag durable result old new sound says may answers state device =
    subst (λ (r : Option FireError). Steps i (fired_as r i what flag) result old new) (sym says) (steps-failed snapshots i kinds.Event i.events.clock (written_event i.config i.events.clock what) _ _ result old new durable sound may answers state device)

-- an agent that runs fires whatever is small enough, while its clock has a time
pub fire-allowed : (i : IdealAgent) (what : EventBody) (flag : Bool) → i.snapshot.stopped ≡ false → is_too_large i.config.event_limit (drawn i.events.clock) what flag ≡ false → i.events.clock < 2 ^ 64 - 1 → fire_error i what flag ≡ None
fire-allowed i what flag runs small time = let low : nat_le (2 ^ 64 - 1) i.events.clock ≡ false = lt-leb _ _ time in rw (runs, small, low) refl

-- an event that isn't too large under a sound agent's limit has a short name and payload
pub small-short : (i : IdealAgent) (t : ℕ) (what : EventBody) (flag : Bool) → IsSound i → is_too_large i.config.event_limit t what flag ≡ false → texts_len what ≤ 9216
small-short i t what flag sound small =
    let limit : i.config.event_limit ≤ 9216 = limit-sound i.config sound.config in
    let parts = or_parts (nat_lt i.config.event_limit (texts_len what)) (nat_lt i.config.event_limit (length (event_packet t what flag))) small in
    let fits : texts_len what ≤ i.config.event_limit = ltb-false _ _ parts.0 in
    omega arith

-- ---- a query that is received

pub steps-query_ignored : (tags : Bool) (i : IdealAgent) (now : ℕ) (q : Query) (reason : Reason) (old : Device) (new : AgentState) → IsSound i → query_admission i q.time q.id ≡ Some reason → new.concrete ≡ view_of (query_observed q.time i) → new.device ≡ old → Steps i (receive_query tags i now q) (Ok (outcomes.Ignored reason)) old new
steps-query_ignored tags i now q reason old new sound says state device =
    subst (λ (r : Option Reason). Steps i (query_received_as tags r i now q) (Ok (outcomes.Ignored reason)) old new) (sym says) (steps-ends i _ _ old new refl state (sound-query_observed q.time i sound) device)

pub steps-query_entered : SnapshotLaws → (tags : Bool) (i : IdealAgent) (now : ℕ) (q : Query) (result : Result Outcome ReceiveError) (old : Device) (new : AgentState) → IsSound i → i.snapshot.stopped ≡ false → q.time < 2 ^ 64 - 1 → query_admission i q.time q.id ≡ None → MayAppendLine kinds.Query q.time (written_query i.config q.time q.id) i.snapshot Kept
    → result ≡ Ok (outcomes.Query (handed_if_passed tags i.config now q) (ack_if_passed tags i.config.name q) (not (has_flag no_broadcast_flag q.flags)))
    → new.concrete ≡ view_of (with_snapshot (appended_with kinds.Query q.time (written_query i.config q.time q.id) i.snapshot Kept) (query_entered q.time q.id i)) → new.device ≡ device_appended kinds.Query q.time (written_query i.config q.time q.id) i.snapshot old → Steps i (receive_query tags i now q) result old new
steps-query_entered snapshots tags i now q result old new sound runs small says may answers state device =
    subst (λ (r : Option Reason). Steps i (query_received_as tags r i now q) result old new) (sym says)
    (steps-kept i kinds.Query q.time (written_query i.config q.time q.id) _ _ result old new may answers state (sound-query_entered snapshots q.time q.id i sound runs small (query_admission-new i q.time q.id says)) device)

pub steps-query_failed : SnapshotLaws → (tags : Bool) (i : IdealAgent) (now : ℕ) (q : Query) (durable : Option (List ℕ)) (result : Result Outcome ReceiveError) (old : Device) (new : AgentState) → IsSound i → query_admission i q.time q.id ≡ None → MayAppendLine kinds.Query q.time (written_query i.config q.time q.id) i.snapshot (Failed durable) → result ≡ Err SinkError
    → new.concrete ≡ view_of (with_snapshot (written kinds.Query q.time i.snapshot (Failed durable)) i) → FailsLine old new.device (bytes_with kinds.Query q.time (written_query i.config q.time q.id) i.snapshot) → Steps i (receive_query tags i now q) result old new
steps-query_failed snapshots tags i now q durable result old new sound says may answers state device =
    subst (λ (r : Option Reason). Steps i (query_received_as tags r i now q) result old new) (sym says) (steps-failed snapshots i kinds.Query q.time (written_query i.config q.time q.id) _ _ result old new durable sound may answers state device)

-- ---- an ack or a response that is received

pub steps-counted : (i : IdealAgent) (now : ℕ) (r : QueryResponse) (q : OpenQuery) (result : Result Outcome ReceiveError) (old : Device) (new : AgentState) → IsSound i → fired_query_at r.time i.fired_queries ≡ Some q → answer_ignore_reason now r q ≡ None → is_full i.config.responders r q ≡ false
    → result ≡ Ok (counted_as (is_ack r)) → new.concrete ≡ view_of (with_fired_queries (with_fired_query_at r.time (counted r q) i.fired_queries) i) → new.device ≡ old → Steps i (receive_response i now r) result old new
steps-counted i now r q result old new sound at none room answers state device =
    let done : Steps i (counts i r q) result old new = rw room (steps-ends i _ result old new answers state (sound-counted now r q i sound at none) device) in
    let taken : Steps i (response_received_as (answer_ignore_reason now r q) i r q) result old new = subst (λ (o : Option Reason). Steps i (response_received_as o i r q) result old new) (sym none) done in
    subst (λ (o : Option OpenQuery). Steps i (response_received_at o i now r) result old new) (sym at) taken

-- if the user event of a packet is this one, the packet was decoded as this event
pub event_decoded : (read : Result Message WireError) (u : UserEvent) → Some u ≡ event_in read → read ≡ Ok (user_event u)
event_decoded (Ok (user_event e)) u is = cc
event_decoded (Ok (query q)) u is = absurd (cc is)
event_decoded (Ok (query_response r)) u is = absurd (cc is)
event_decoded (Ok (push_pull state)) u is = absurd (cc is)
event_decoded (Ok (foreign kind)) u is = absurd (cc is)
event_decoded (Err error) u is = absurd (cc is)

-- ---- a query that is fired

pub query-allowed : (i : IdealAgent) (id : ℕ) (name payload : List ℕ) (params : QueryParams) → i.snapshot.stopped ≡ false → is_too_large_query i.config i.queries.clock id name payload params ≡ false → is_no_timeout params.timeout ≡ false → i.queries.clock < 2 ^ 64 - 1
    → query_error i id name payload params ≡ None
query-allowed i id name payload params runs small some time = let low : nat_le (2 ^ 64 - 1) i.queries.clock ≡ false = lt-leb _ _ time in rw (runs, small, some, low) refl

pub steps-query_opened : SnapshotLaws → (i : IdealAgent) (now id : ℕ) (name payload : List ℕ) (params : QueryParams) (result : Result FiredQuery QueryError) (old : Device) (new : AgentState) → IsSound i → i.snapshot.stopped ≡ false → i.queries.clock < 2 ^ 64 - 1 → query_error i id name payload params ≡ None → MayAppendLine kinds.Query i.queries.clock (written_query i.config i.queries.clock id) i.snapshot Kept
    → result ≡ Ok (fired_query params.tags_pass i.config now (query_at i.queries.clock i.config.name id name payload params))
    → new.concrete ≡ view_of (with_snapshot (appended_with kinds.Query i.queries.clock (written_query i.config i.queries.clock id) i.snapshot Kept) (query_opened now (query_at i.queries.clock i.config.name id name payload params) i)) → new.device ≡ device_appended kinds.Query i.queries.clock (written_query i.config i.queries.clock id) i.snapshot old → Steps i (fire_query i now id name payload params) result old new
steps-query_opened snapshots i now id name payload params result old new sound runs small says may answers state device =
    let q = query_at i.queries.clock i.config.name id name payload params in
    subst (λ (r : Option QueryError). Steps i (query_fired_as params.tags_pass r i now q) result old new) (sym says) (steps-kept i kinds.Query i.queries.clock (written_query i.config i.queries.clock id) _ _ result old new may answers state (sound-query_opened snapshots now q i sound runs refl small) device)

pub steps-query_fire_failed : SnapshotLaws → (i : IdealAgent) (now id : ℕ) (name payload : List ℕ) (params : QueryParams) (durable : Option (List ℕ)) (result : Result FiredQuery QueryError) (old : Device) (new : AgentState) → IsSound i → query_error i id name payload params ≡ None → MayAppendLine kinds.Query i.queries.clock (written_query i.config i.queries.clock id) i.snapshot (Failed durable) → result ≡ Err asks_errors.SinkError
    → new.concrete ≡ view_of (with_snapshot (written kinds.Query i.queries.clock i.snapshot (Failed durable)) i) → FailsLine old new.device (bytes_with kinds.Query i.queries.clock (written_query i.config i.queries.clock id) i.snapshot) → Steps i (fire_query i now id name payload params) result old new
steps-query_fire_failed snapshots i now id name payload params durable result old new sound says may answers state device =
    let q = query_at i.queries.clock i.config.name id name payload params in
    subst (λ (r : Option QueryError). Steps i (query_fired_as params.tags_pass r i now q) result old new) (sym says) (steps-failed snapshots i kinds.Query i.queries.clock (written_query i.config i.queries.clock id) _ _ result old new durable sound may answers state device)
