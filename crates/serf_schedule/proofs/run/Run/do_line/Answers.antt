use Rattle.serf_schedule.proofs.Names.{List, None, Ok, Result, Some, [], ap, rules, ◌++◌, ◌∙◌, ◌≡◌, append-nil, Cause, Action, Parsed, with_action, after_line}
use Rattle.serf_schedule.proofs.RunLaws.{has-some, line-more, refused-line, said-following, settings-following, stage-following, stage-held, stage-tells, with-agents}
use Rattle.serf_schedule.proofs.run.Run.do_line.Goals as goal

pub returns-clause-refused : goal.returns-clause-refused
returns-clause-refused g c = λ options lines told h.
    let late = c.is_some-is_late.result in
    let here : late ≡ has-some c.args.self.now.acting = search rules in
    let held = stage-held (g.T.Turns.told options) c.args.self.now.agents c.args.self.now.acting c.args.self.now.reporter h.said told h.stage late here in
    refused-line c.in-Err.error lines c.args.line.now h.said h.reads (c.in-Err.ensures.said h.said held)

pub returns-in-Ok-clause-done : goal.returns-in-Ok-clause-done
returns-in-Ok-clause-done g c = λ options lines front h.
    let told = front ++ c.args.text.now.items in
    let late = c.is_some-is_late.result in
    let here : late ≡ has-some c.args.self.now.acting = search rules in
    let new = c.say_line.new.agents in
    let held = stage-held (g.T.Turns.told options) c.args.self.now.agents c.args.self.now.acting c.args.self.now.reporter h.said told h.stage late here in
    let now : Parsed = with-agents late new h.said in
    let stage = c.in-Ok.ensures options now front (stage-following (g.T.Turns.told options) c.args.self.now.agents new c.args.self.now.acting c.args.self.now.reporter h.said told h.stage late here) in
    record {
      said = with_action now c.in-Ok-Some.action;
      reads = line-more lines c.args.line.now h.said (with_action now c.in-Ok-Some.action) h.reads
          (said-following late h.said new c.in-Ok-Some.field-0 (Some c.in-Ok-Some.action) (after_line h.said c.args.line.now) (c.in-Ok-Some.ensures.said h.said held) c.in-Ok-Some.field-0-is);
      settings = settings-following late c.args.self.now.agents new h.said held h.settings c.say_line.ensures.agents;
      stage = stage;
      tells = stage-tells (g.T.Turns.told options) c.do_action.new.agents c.do_action.new.acting c.do_action.new.reporter (with_action now c.in-Ok-Some.action) (front ++ c.do_action.new.text.items) stage;
    }

pub returns-in-Ok-None-clause-done : goal.returns-in-Ok-None-clause-done
returns-in-Ok-None-clause-done g c = λ options lines front h.
    let told = front ++ c.args.text.now.items in
    let late = c.is_some-is_late.result in
    let here : late ≡ has-some c.args.self.now.acting = search rules in
    let new = c.say_line.new.agents in
    let held = stage-held (g.T.Turns.told options) c.args.self.now.agents c.args.self.now.acting c.args.self.now.reporter h.said told h.stage late here in
    let now : Parsed = with-agents late new h.said in
    let stage = stage-following (g.T.Turns.told options) c.args.self.now.agents new c.args.self.now.acting c.args.self.now.reporter h.said told h.stage late here in
    let nothing : record { configs = now.configs; actions = now.actions ++ [] } ≡ now = ap (λ (xs : List Action). let p : Parsed = record { configs = now.configs; actions = xs } in p) (append-nil now.actions) in
    record {
      said = now;
      reads = line-more lines c.args.line.now h.said now h.reads
          (said-following late h.said new c.in-Ok-None.field-0 None (after_line h.said c.args.line.now) (c.in-Ok-None.ensures.said h.said held) c.in-Ok-None.field-0-is ∙ ap (λ (p : Parsed). let ok : Result Parsed Cause = Ok p in ok) nothing);
      settings = settings-following late c.args.self.now.agents new h.said held h.settings c.say_line.ensures.agents;
      stage = stage;
      tells = stage-tells (g.T.Turns.told options) new c.args.self.now.acting c.args.self.now.reporter now told stage;
    }
