use Rattle.serf_agent.proofs.Names.{Err, refl, Wire}
use Rattle.serf_agent.proofs.StepLaws.{steps-answers}
use Rattle.serf_agent.proofs.TakenPackets.{takes-error, takes-read}
use Rattle.serf_agent.proofs.agent.Agent.receive_packet.Goals as goal

pub returns-in-Ok : goal.returns-in-Ok
returns-in-Ok g c =
    let right = rw c.in-Ok.is at c.decode.ensures.exact in
    takes-read c.args.tags_pass c.args.now c.args.packet.now _ c.args.self.now c.receive_message.new.self c.receive_message.result c.requires right c.receive_message.ensures

pub returns-in-Err : goal.returns-in-Err
returns-in-Err g c =
    let old = c.args.self.now in
    let error = Wire c.in-Err.error in
    let wrong = rw c.in-Err.is at c.decode.ensures.exact in
    takes-read c.args.tags_pass c.args.now c.args.packet.now (Err c.in-Err.error) old old (Err error) c.requires wrong
    (takes-error _ _ old error (λ e. cc e) (λ e. cc e) (λ i sound is. steps-answers i (Err error) (Err error) old.device old sound refl is refl))
