use Rattle.serf_text.proofs.Names.{arith, subst, take, ◌++◌, ◌≡◌, Consumes-kept, Consumes-trans, common_steps, IfErr-weaker, on_ok_weaker, Consumes}
use Rattle.serf_text.proofs.StreamLaws.{no-more, stopped-at-read}
use Rattle.serf_text.proofs.stream.report_lines.Goals as goal

pub returns-in-Err-clause-stopped : goal.returns-in-Err-clause-stopped
returns-in-Err-clause-stopped g c = λ start.
    let i = c.loop-turn.invariant.0 start in
    let kept = c.loop-turn.kept in (
      i.0,
      Consumes-kept _ _ _ i.0 i.1 c.in-Err.ensures.bytes,
      stopped-at-read g.J.LineReporter.told g.J.LineReporter.refuses c.loop-turn.job kept.held.items kept.number kept.waiting.items i.0 (g.W.Write.contents c.args.writer.now) (g.W.Write.contents c.loop-turn.writer) i.2 c.loop-turn.invariant.1,
    )

pub returns-in-Ok-eq0-clause-done : goal.returns-in-Ok-eq0-clause-done
returns-in-Ok-eq0-clause-done g c = λ start.
    let i = c.loop-turn.invariant.0 start in
    let read = c.in-Ok-eq0.ensures.bytes in
    let none : c.in-Ok-eq0.field-0 ≡ 0 = grind (arith, common_steps, c.in-Ok-eq0.field-0-test) in
    let nothing = no-more i.0 c.read.new.buf c.in-Ok-eq0.field-0 none in
    let consumed = subst (Consumes (g.R.Read.remaining c.args.reader.now) (g.R.Read.remaining c.read.new.self)) nothing (Consumes-trans (g.R.Read.remaining c.args.reader.now) (g.R.Read.remaining c.loop-turn.reader) (g.R.Read.remaining c.read.new.self) i.0 (take c.in-Ok-eq0.field-0 c.read.new.buf) i.1 read.0) in
    on_ok_weaker c.finish.result
    (λ done. (i.0, consumed, read.1 none (omega arith), done))
    (c.finish.ensures.done i.0 (g.W.Write.contents c.args.writer.now) i.2)

pub returns-in-Ok-eq0-clause-stopped : goal.returns-in-Ok-eq0-clause-stopped
returns-in-Ok-eq0-clause-stopped g c = λ start.
    let i = c.loop-turn.invariant.0 start in
    let read = c.in-Ok-eq0.ensures.bytes in
    let none : c.in-Ok-eq0.field-0 ≡ 0 = grind (arith, common_steps, c.in-Ok-eq0.field-0-test) in
    let nothing = no-more i.0 c.read.new.buf c.in-Ok-eq0.field-0 none in
    let consumed = subst (Consumes (g.R.Read.remaining c.args.reader.now) (g.R.Read.remaining c.read.new.self)) nothing (Consumes-trans (g.R.Read.remaining c.args.reader.now) (g.R.Read.remaining c.loop-turn.reader) (g.R.Read.remaining c.read.new.self) i.0 (take c.in-Ok-eq0.field-0 c.read.new.buf) i.1 read.0) in
    IfErr-weaker c.finish.result _ _
    (λ error stopped. (i.0, consumed, stopped))
    (c.finish.ensures.stopped i.0 (g.W.Write.contents c.args.writer.now) i.2)

pub returns-in-Err-step-clause-stopped : goal.returns-in-Err-step-clause-stopped
returns-in-Err-step-clause-stopped g c = λ start.
    let i = c.loop-turn.invariant.0 start in
    let read = c.in-Ok.ensures.bytes in
    (i.0 ++ take c.in-Ok.n c.read.new.buf, Consumes-trans _ _ _ _ _ i.1 read.0, c.in-Err-step.ensures.stopped i.0 (g.W.Write.contents c.args.writer.now) i.2)

pub loop-turn-preserved : goal.loop-turn-preserved
loop-turn-preserved g c = (
  λ start.
      let i = c.loop-turn.invariant.0 start in
      let read = c.in-Ok.ensures.bytes in
      (i.0 ++ take c.in-Ok.n c.read.new.buf, Consumes-trans _ _ _ _ _ i.1 read.0, c.in-Ok-step.ensures.done i.0 (g.W.Write.contents c.args.writer.now) i.2),
  c.in-Ok-step.ensures.empty,
)

pub returns-clause-stopped : goal.returns-clause-stopped
returns-clause-stopped g c = λ start.
    let i = c.loop-turn.invariant.0 start in
    let kept = c.loop-turn.kept in (
      i.0,
      i.1,
      stopped-at-read g.J.LineReporter.told g.J.LineReporter.refuses c.loop-turn.job kept.held.items kept.number kept.waiting.items i.0 (g.W.Write.contents c.args.writer.now) (g.W.Write.contents c.loop-turn.writer) i.2 c.loop-turn.invariant.1,
    )
