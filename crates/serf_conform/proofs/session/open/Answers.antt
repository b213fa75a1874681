use Rattle.serf_conform.proofs.Names.{List, Some, [], subst, ℕ, ◌∙◌, IfOk, IfSome, open_line, Said, is_serf, IsTaken, outcome_for, then_dumped, with_line, opening, StateDump}
use Rattle.serf_conform.proofs.session.open.Goals as goal

pub returns : goal.returns
returns g c =
    let Came : StateDump → List ℕ → Said → Type 0 = λ dump line said.
    IfOk c.call_and_look.result (λ x. IfSome (g.R.Read.remaining c.args.pipe.now.reader) (λ input. IsTaken (then_dumped (is_serf c.args.subject.now.rules) (Some dump) (with_line line (outcome_for [] said input))) x
    (g.R.Read.remaining c.call_and_look.new.pipe.reader) (g.W.Write.contents c.args.pipe.now.writer) (g.W.Write.contents c.call_and_look.new.pipe.writer)))
    in
    subst (λ (dump : StateDump). Came dump (open_line c.args.subject.now.config.now []) opening) (c.in_ok-dump.ensures c.args.subject.now.config.now [] c.requires)
    (subst (λ (line : List ℕ). Came c.in_ok-dump.dump line opening) (c.deref.ensures.value ∙ c.in_ok-text.ensures)
    (subst (λ (said : Said). Came c.in_ok-dump.dump c.deref.result.now said) c.in_ok-reply.ensures c.call_and_look.ensures))
