use Rattle.serf_replay.proofs.Names.{refl, subst, sym, lines_of, IsSummary, sums_up, lines_in}
use Rattle.serf_replay.proofs.TextLaws.{halted-at}
use Rattle.serf_replay.proofs.summarizing.summarize_lines.Goals as goal

pub returns-in-Ok-clause-done : goal.returns-in-Ok-clause-done
returns-in-Ok-clause-done g c =
    let d = c.in-Ok.ensures.done (tt, tt, c.new-run.ensures tt (λ configs. (c.new.ensures, refl))) in
    let h = d.3.tells.2 in
    let sums = subst (λ s. IsSummary s (lines_in h.said)) (sym c.replace-summary.ensures.value) h.tells.0 in
    (d.0, d.1, d.2, record { schedule = h.said; reads = h.reads; settings = h.settings; sized = c.agents-size.ensures tt (lines_of d.0) d.3.text h; summary_is = record { counted = sums.counted; answers = sums.answers; hand_outs = sums.hand_outs } })

pub returns-clause-stopped : goal.returns-clause-stopped
returns-clause-stopped g c =
    let s = c.in-Err.ensures.stopped (tt, tt, c.new-run.ensures tt (λ configs. (c.new.ensures, refl))) in
    (s.0, s.1, halted-at (λ options. Unit {0}) (λ options s configs actions text. sums_up s configs actions text) c.in-Err.error s.0 _ _ s.2)
