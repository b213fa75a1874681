use Rattle.std.proofs.Common.{ap, codes, sym, List, ℕ, ◌++◌, ◌∙◌}
use Rattle.serf_wire.specs.Message.{message_of}
use Rattle.serf_json.specs.Json.{bytes_member}
unfoldable use Rattle.serf_run_json.specs.Members.{number_member}
use Rattle.serf_run_json.specs.Messages.{said_members}
use Rattle.serf_run_json.proofs.MessageLaws.{four, other-three}
use Rattle.serf_run_json.proofs.messages.message_members.Goals as goal

abbrev identified : List ℕ → List ℕ → List ℕ → ℕ → ℕ → List ℕ
identified name text payload time id =
    number_member (codes "time") time ++ number_member (codes "id") id ++ bytes_member name text ++ bytes_member (codes "payload") payload

pub returns-in-UserEvent : goal.returns-in-UserEvent
unfolding number_member
returns-in-UserEvent c =
    let e = c.in-UserEvent.event in
    other-three _ _ _ ∙ ap (λ n. number_member (codes "time") n ++ bytes_member (codes "name") e.name.now ++ bytes_member (codes "payload") e.payload.now) c.get.ensures.value
    ∙ ap (λ m. said_members (message_of m)) (sym c.in-UserEvent.is)

pub returns-in-Query : goal.returns-in-Query
unfolding number_member
returns-in-Query c =
    let q = c.in-Query.query in
    four _ _ _ _ ∙ ap (λ n. identified (codes "name") q.name.now q.payload.now n c.from.result) c.get-in-Query.ensures.value
    ∙ ap (λ n. identified (codes "name") q.name.now q.payload.now q.time n) c.from.ensures
    ∙ ap (λ m. said_members (message_of m)) (sym c.in-Query.is)

pub returns-in-QueryResponse : goal.returns-in-QueryResponse
unfolding number_member
returns-in-QueryResponse c =
    let r = c.in-QueryResponse.answer in
    four _ _ _ _ ∙ ap (λ n. identified (codes "from") r.from.now r.payload.now r.time n) c.from-in-QueryResponse.ensures
    ∙ ap (λ m. said_members (message_of m)) (sym c.in-QueryResponse.is)
