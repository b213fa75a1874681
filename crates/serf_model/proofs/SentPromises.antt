-- What an open query holds is in answers that were sent.
use Rattle.serf_model.proofs.Names.{Bool, List, Ok, Result, [], ap, append_assoc, cond, false, refl, subst, sym, true, ℕ, ◌++◌, ◌==◌, ◌∙◌, ◌∷◌, ◌≡◌, eqb-true, flat_map-append, All-append, All-cons, All-filter, All-head, All-map, All-nil, All-tail, All-weaker, Contains-append_left, filter_passes, flat_map, option_to_list, All, Contains, decoded, Message, QueryResponse, query_response, WireError, is_ack, Response, OpenQuery, CountedSent, HoldsSent, IsSentTo, OpenQueriesSent, answer_brought, answers_in, counted_at, counted_by, is_counted, response_held, to_time, Run, Turn, actor_of, is_agent, sent_in, turns_by}
use Rattle.serf_model.proofs.CountingPromises.{IsCounting}
use Rattle.serf_model.proofs.OpenQueryContents.{IsOpen}

-- a packet that was sent spells an answer of a kind
record IsSpelled (turns : List Turn) (ack : Bool) (r : QueryResponse) : Type 0 where
  packet : List ℕ
  sent : Contains (sent_in turns) packet
  says : decoded packet ≡ Ok (query_response r)
  kind : is_ack r ≡ ack

-- what a turn counts was sent before this turn
spelled-at : (turns before rest : List Turn) (turn : Turn) (ack : Bool) → CountedSent turns → turns ≡ before ++ turn ∷ rest → All (IsSpelled turns ack) (counted_at ack turn)
spelled-at turns before rest turn ack counted cut = by (is_counted ack turn.line.answer) refl
  where
    by : (b : Bool) → is_counted ack turn.line.answer ≡ b → All (IsSpelled turns ack) (cond b (answers_in (option_to_list turn.given)) [])
    by false never = All-nil (IsSpelled turns ack)
    by true is =
        let d = counted before turn rest cut ack is in
        let one : answers_in (option_to_list turn.given) ≡ d.answer ∷ [] = ap (λ g. answers_in (option_to_list g)) d.given ∙ ap (λ (m : Result Message WireError). answer_brought m ++ []) d.says in
        let front : sent_in turns ≡ sent_in before ++ sent_in (turn ∷ rest) = ap sent_in cut ∙ flat_map-append (λ (t : Turn). t.packets) before (turn ∷ rest) in
        let sent : Contains (sent_in turns) d.packet = subst (λ (l : List (List ℕ)). Contains l d.packet) (sym front) (Contains-append_left (sent_in before) (sent_in (turn ∷ rest)) d.packet d.sent) in
        subst (All (IsSpelled turns ack)) (sym one) (All-cons (IsSpelled turns ack) d.answer [] (record { packet = d.packet; sent = sent; says = d.says; kind = d.kind }) (All-nil (IsSpelled turns ack)))

spelled-from : (turns before rest : List Turn) (a : ℕ) (ack : Bool) → CountedSent turns → turns ≡ before ++ rest → All (IsSpelled turns ack) (counted_by ack a rest)
spelled-from turns before [] a ack counted cut = All-nil (IsSpelled turns ack)
spelled-from turns before (turn ∷ rest) a ack counted cut =
    by (is_agent a (actor_of turn.action)) (spelled-from turns (before ++ turn ∷ []) rest a ack counted (cut ∙ sym (append_assoc before (turn ∷ []) rest)))
  where
    by : (b : Bool) → All (IsSpelled turns ack) (counted_by ack a rest) → All (IsSpelled turns ack) (flat_map (counted_at ack) (cond b (turn ∷ turns_by a rest) (turns_by a rest)))
    by true later = All-append (IsSpelled turns ack) (counted_at ack turn) (counted_by ack a rest) (spelled-at turns before rest turn ack counted cut) later
    by false later = later

-- a conclusion from two properties of each element
both-ways : {X : Type 0} (P Q R : X → Type 0) (xs : List X) → ((x : X) → P x → Q x → R x) → All P xs → All Q xs → All R xs
both-ways P Q R [] of p q = All-nil R
both-ways P Q R (x ∷ xs) of p q = All-cons R x xs (of x (All-head P x xs p) (All-head Q x xs q)) (both-ways P Q R xs of (All-tail P x xs p) (All-tail Q x xs q))

-- the answers to an open query's time
sent-to : (turns : List Turn) (a : ℕ) (q : ℕ × OpenQuery) (ack : Bool) → CountedSent turns → All (λ r. r.id ≡ q.1.id) (to_time q.0 (counted_by ack a turns)) → All (IsSentTo turns q ack) (to_time q.0 (counted_by ack a turns))
sent-to turns a q ack counted ids =
    let rs : List QueryResponse = counted_by ack a turns in
    let timely : QueryResponse → Bool = λ r. r.time == q.0 in
    let spelled : All (IsSpelled turns ack) (to_time q.0 rs) = All-filter timely (IsSpelled turns ack) rs (spelled-from turns [] turns a ack counted refl) in
    let timed : All (λ r. timely r ≡ true) (to_time q.0 rs) = filter_passes timely rs in
    let known : All (λ (r : QueryResponse). (timely r ≡ true) × (r.id ≡ q.1.id)) (to_time q.0 rs) =
    both-ways (λ r. timely r ≡ true) (λ r. r.id ≡ q.1.id) (λ (r : QueryResponse). (timely r ≡ true) × (r.id ≡ q.1.id)) (to_time q.0 rs) (λ r time id. (time, id)) timed ids in
    both-ways (IsSpelled turns ack) (λ (r : QueryResponse). (timely r ≡ true) × (r.id ≡ q.1.id)) (IsSentTo turns q ack) (to_time q.0 rs)
    (λ r s h. record { packet = s.packet; sent = s.sent; says = s.says; kind = s.kind; time = eqb-true r.time q.0 h.0; id = h.1 }) spelled known

held-sent : (turns : List Turn) (a : ℕ) (q : ℕ × OpenQuery) → CountedSent turns → IsOpen (turns_by a turns) q → HoldsSent turns q
held-sent turns a q counted h =
    let Named : List ℕ → Type 0 = λ name. (r : QueryResponse) × IsSentTo turns q true r × (r.from ≡ name) in
    let Held : Response → Type 0 = λ held. (r : QueryResponse) × IsSentTo turns q false r × (response_held r ≡ held) in
    record {
      acks = subst (All Named) (sym h.acks)
          (All-map Named (λ (r : QueryResponse). r.from) (to_time q.0 (counted_by true a turns))
          (All-weaker (IsSentTo turns q true) (λ r. Named r.from) (λ r s. (r, s, refl)) (to_time q.0 (counted_by true a turns)) (sent-to turns a q true counted (h.ids true))));
      responses = subst (All Held) (sym h.responses)
          (All-map Held response_held (to_time q.0 (counted_by false a turns))
          (All-weaker (IsSentTo turns q false) (λ r. Held (response_held r)) (λ r s. (r, s, refl)) (to_time q.0 (counted_by false a turns)) (sent-to turns a q false counted (h.ids false))));
    }

pub open-sent : (r : Run) → IsCounting r.cluster r.turns → OpenQueriesSent r
open-sent r h a m at = All-weaker (IsOpen (turns_by a r.turns)) (HoldsSent r.turns) (λ q o. held-sent r.turns a q h.sent o) m.agent.fired_queries (h.each a m at).fired_queries
