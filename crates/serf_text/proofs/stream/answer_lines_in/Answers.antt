use Rattle.serf_text.proofs.Names.{[], inl, ◌++◌, ◌∷◌, IfErr-weaker, lines_of}
use Rattle.serf_text.proofs.LineLaws.{lines-more, next-line, this-line}
use Rattle.serf_text.proofs.StreamLaws.{not-held}
use Rattle.serf_text.proofs.stream.answer_lines_in.Goals as goal

pub lines-init : goal.lines-init
lines-init g c = λ before first h. (h.lines, lines-more before c.args.bytes.now h.lines c.args.kept.now.held.items h.splits, h.reached)

pub returns-in-Err-clause-stopped : goal.returns-in-Err-clause-stopped
returns-in-Err-clause-stopped g c = λ before first h.
    let i = c.lines.invariant before first h in
    let parts = rw c.in-Some.is at c.split_once.ensures.parts in
    let splits = this-line (lines_of (before ++ c.args.bytes.now)) i.0 (lines_of c.in-Some.next.now) c.lines.kept.held.items c.split_once.result.0.now c.lines.rest.now i.1 parts in
    c.in-Err.ensures.stopped (lines_of (before ++ c.args.bytes.now)) i.0 (lines_of c.in-Some.next.now) first splits i.2

pub lines-preserved : goal.lines-preserved
lines-preserved g c = λ before first h.
    let i = c.lines.invariant before first h in
    let parts = rw c.in-Some.is at c.split_once.ensures.parts in (
      i.0 ++ (c.lines.kept.held.items ++ c.split_once.result.0.now) ∷ [],
      next-line (lines_of (before ++ c.args.bytes.now)) i.0 c.lines.kept.held.items c.split_once.result.0.now c.lines.rest.now c.in-Some.next.now c.answer_line_and_write.new.kept.held.items i.1 parts c.in-Ok.ensures.empty,
      c.in-Ok.ensures.done i.0 first i.2,
    )

pub returns-in-None-clause-stopped : goal.returns-in-None-clause-stopped
returns-in-None-clause-stopped g c = λ before first h.
    let i = c.lines.invariant before first h in
    let parts = rw c.in-None.is at c.split_once.ensures.parts in
    IfErr-weaker c.hold.result _ _
    (λ error is. inl (record {
      lines = i.0;
      line = c.lines.kept.held.items ++ c.split_once.result.0.now;
      more = [];
      splits = this-line (lines_of (before ++ c.args.bytes.now)) i.0 [] c.lines.kept.held.items c.split_once.result.0.now c.lines.rest.now i.1 parts;
      job = c.lines.job;
      text = i.2.text;
      appended = i.2.appended;
      tells = i.2.tells;
      error_is = not-held g.J.LineReporter.refuses error i.0 (c.lines.kept.held.items ++ c.split_once.result.0.now) is;
    }))
    (c.hold.ensures.stopped i.0 i.2.numbered)
