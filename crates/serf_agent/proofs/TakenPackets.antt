-- What is left after a packet is received: of one call from what is left of another, and of a call that counts nothing.
use Rattle.serf_agent.proofs.Names.{Bool, Err, List, Ok, Option, Result, ap, cond, false, refl, subst, sym, true, ℕ, ◌∙◌, ◌≡◌, ◌≢◌, decoded, Message, QueryResponse, WireError, CountsAnswer, answer_read, Call, answers, IdealAgent, TakesMemory, receive, receive_read, IsSound, Steps, TakesPacket, AgentState, ConcreteState, view_of, Outcome, ReceiveError}
use Rattle.serf_agent.specs.declared.outcome.Outcome.TheVariants as outcomes
use Rattle.serf_agent.specs.declared.outcome.ReceiveError.TheVariants as errors

pub same-call : (call other : IdealAgent → Call (Result Outcome ReceiveError)) (answer more : Option QueryResponse) (old new : AgentState) (r : Result Outcome ReceiveError) → ((i : IdealAgent) → old.concrete ≡ view_of i → call i ≡ other i) → answer ≡ more → TakesPacket call answer old new r → TakesPacket other more old new r
same-call call other answer more old new r same is taken = record {
  step = λ i sound at not_memory. subst (λ (c : Call (Result Outcome ReceiveError)). Steps i c r old.device new) (same i at) (taken.step i sound at not_memory);
  only_new = λ i sound at memory. subst TakesMemory (same i at) (taken.only_new i sound at memory);
  memory = taken.memory;
  refused = taken.refused;
  cause = taken.cause;
  ack = λ at. subst (λ (a : Option QueryResponse). CountsAnswer true a old.concrete.fired_queries new.concrete.fired_queries) is (taken.ack at);
  response = λ at. subst (λ (a : Option QueryResponse). CountsAnswer false a old.concrete.fired_queries new.concrete.fired_queries) is (taken.response at);
}

-- an agent that isn't stopped receives a packet as what is read from it
pub takes-read : (tags : Bool) (now : ℕ) (packet : List ℕ) (read : Result Message WireError) (old new : AgentState) (r : Result Outcome ReceiveError) → old.concrete.snapshot.stopped ≡ false → decoded packet ≡ read → TakesPacket (λ i. receive_read tags i now read) (answer_read read) old new r
    → TakesPacket (λ i. receive tags i now packet) (answer_read (decoded packet)) old new r
takes-read tags now packet read old new r runs is taken =
    same-call (λ i. receive_read tags i now read) (λ i. receive tags i now packet) (answer_read read) (answer_read (decoded packet)) old new r
    (λ i at. (λ k. cond (sym (sym (ap (λ (s : ConcreteState). s.snapshot.stopped) at) ∙ runs) k) (answers i (Err errors.Stopped)) (receive_read tags i now (sym is k)))) (ap answer_read (sym is)) taken

-- a call that succeeds and counts nothing
pub takes-ok : (call : IdealAgent → Call (Result Outcome ReceiveError)) (answer : Option QueryResponse) (old new : AgentState) (o : Outcome) → o ≢ outcomes.Ack → o ≢ outcomes.Response → ((i : IdealAgent) → IsSound i → old.concrete ≡ view_of i → Steps i (call i) (Ok o) old.device new)
    → TakesPacket call answer old new (Ok o)
takes-ok call answer old new o no_ack no_response steps = record {
  step = λ i sound at _. steps i sound at;
  only_new = λ i sound at memory. absurd (cc memory);
  memory = λ memory. absurd (cc memory);
  refused = tt;
  cause = λ error. absurd (cc error);
  ack = λ at. absurd (no_ack (cc at));
  response = λ at. absurd (no_response (cc at));
}

-- a call that fails because of an error of the packet
pub takes-error : (call : IdealAgent → Call (Result Outcome ReceiveError)) (answer : Option QueryResponse) (old : AgentState) (error : ReceiveError) → error ≢ errors.OutOfMemory → error ≢ errors.SinkError → ((i : IdealAgent) → IsSound i → old.concrete ≡ view_of i → Steps i (call i) (Err error) old.device old)
    → TakesPacket call answer old old (Err error)
takes-error call answer old error no_memory no_sink steps = record {
  step = λ i sound at _. steps i sound at;
  only_new = λ i sound at memory. absurd (no_memory (cc memory));
  memory = λ _. refl;
  refused = λ _. refl;
  cause = λ at. absurd (no_sink (cc at));
  ack = λ at. absurd (cc at);
  response = λ at. absurd (cc at);
}
