use Rattle.std.proofs.Common.{ap, decimal, sym, ◌++◌, ◌∙◌}
use Rattle.std.proofs.lemmas.Result.{on_ok_weaker}
use Rattle.serf_wire.specs.Lists.{slots_left}
use Rattle.serf_wire.specs.Message.{message_of}
use Rattle.serf_text.specs.Quoted.{quoted}
use Rattle.serf_run_json.specs.Readable.{event_count, message_words}
use Rattle.serf_run_json.proofs.ReadableLaws.{answer-words, state-words}
use Rattle.serf_run_json.proofs.readable.write_message.Goals as goal

pub returns-in-QueryResponse : goal.returns-in-QueryResponse
returns-in-QueryResponse c =
    let r = c.in-QueryResponse.answer in
    on_ok_weaker c.write_template-in-QueryResponse.result
    (λ is. is ∙ ap (λ t. c.args.out.now.items ++ t) (answer-words (decimal r.time) (decimal c.from-in-QueryResponse.result) (quoted r.from.now) (quoted r.payload.now) (decimal r.id) (ap decimal c.from-in-QueryResponse.ensures))
    ∙ ap (λ m. c.args.out.now.items ++ message_words (message_of m)) (sym c.in-QueryResponse.is))
    c.write_template-in-QueryResponse.ensures

pub returns-in-PushPull : goal.returns-in-PushPull
returns-in-PushPull c =
    let s = c.in-PushPull.state in
    on_ok_weaker c.write_template-in-PushPull.result
    (λ is. is ∙ ap (λ t. c.args.out.now.items ++ t) (state-words (decimal s.event_clock) (decimal c.event_count-count.result) (decimal (event_count (slots_left s.slots))) (ap decimal c.event_count-count.ensures))
    ∙ ap (λ m. c.args.out.now.items ++ message_words (message_of m)) (sym c.in-PushPull.is))
    c.write_template-in-PushPull.ensures
