use Rattle.serf_agent.proofs.Names.{Ok, ap, refl, subst, sym, Message, message_of, answer_of, receive_message, TakesPacket}
use Rattle.serf_agent.specs.declared.outcome.Outcome.TheVariants as outcomes
use Rattle.serf_agent.proofs.StepLaws.{steps-answers}
use Rattle.serf_agent.proofs.TakenPackets.{takes-ok}
use Rattle.serf_agent.proofs.agent.Agent.receive_message.Goals as goal

-- What a call ensures for the message that it gets is what is required, at the message that was matched.

pub returns-in-UserEvent : goal.returns-in-UserEvent
returns-in-UserEvent g c =
    subst (λ (m : Message). TakesPacket (λ i. receive_message c.args.tags_pass i c.args.now m) (answer_of m) c.args.self.now c.receive_event.new.self c.receive_event.result) (sym (ap message_of c.in-UserEvent.is)) c.receive_event.ensures

pub returns-in-Query : goal.returns-in-Query
returns-in-Query g c =
    subst (λ (m : Message). TakesPacket (λ i. receive_message c.args.tags_pass i c.args.now m) (answer_of m) c.args.self.now c.receive_query.new.self c.receive_query.result) (sym (ap message_of c.in-Query.is)) c.receive_query.ensures

pub returns-in-QueryResponse : goal.returns-in-QueryResponse
returns-in-QueryResponse g c =
    subst (λ (m : Message). TakesPacket (λ i. receive_message c.args.tags_pass i c.args.now m) (answer_of m) c.args.self.now c.receive_response.new.self c.receive_response.result) (sym (ap message_of c.in-QueryResponse.is)) c.receive_response.ensures

pub returns-in-PushPull : goal.returns-in-PushPull
returns-in-PushPull g c =
    let old = c.args.self.now in
    let answer = outcomes.PushPull in
    subst (λ (m : Message). TakesPacket (λ i. receive_message c.args.tags_pass i c.args.now m) (answer_of m) old old (Ok answer)) (sym (ap message_of c.in-PushPull.is))
    (takes-ok _ _ old old answer (λ e. cc e) (λ e. cc e) (λ i sound is. steps-answers i (Ok answer) (Ok answer) old.device old sound refl is refl))

pub returns-in-Foreign : goal.returns-in-Foreign
returns-in-Foreign g c =
    let old = c.args.self.now in
    let answer = outcomes.Foreign c.in-Foreign.kind in
    subst (λ (m : Message). TakesPacket (λ i. receive_message c.args.tags_pass i c.args.now m) (answer_of m) old old (Ok answer)) (sym (ap message_of c.in-Foreign.is))
    (takes-ok _ _ old old answer (λ e. cc e) (λ e. cc e) (λ i sound is. steps-answers i (Ok answer) (Ok answer) old.device old sound refl is refl))
