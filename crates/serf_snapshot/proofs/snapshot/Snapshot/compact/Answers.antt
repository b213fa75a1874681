use Rattle.serf_snapshot.proofs.Names.{List, subst, ℕ, ◌∙◌, ◌≡◌, ReplacesText, compaction_bytes, lines_given, text_with}
use Rattle.serf_snapshot.proofs.KeptAppendLineLaws.{text-given}
use Rattle.serf_snapshot.proofs.snapshot.Snapshot.compact.Goals as goal

pub returns : goal.returns
returns g c =
    let e = c.clocks.ensures in
    let lines = c.args.lines.now in
    let text : c.as_slice.result.now ≡ text_with (lines_given lines) c.args.self.now.snapshot = c.as_slice.ensures ∙ c.in_ok-text.ensures ∙ (λ k. compaction_bytes lines (e.member k) (e.event k) (e.query k)) ∙ text-given lines c.args.self.now.snapshot in
    subst (λ (t : List ℕ). ReplacesText t c.args.self.now c.replace_text.new.self c.replace_text.result) text c.replace_text.ensures
