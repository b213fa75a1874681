use Rattle.serf_judge_json.proofs.Names.{◌++◌, ◌∙◌, lines_text, missed_text, read_text, runs_text, verdicts_text}
use Rattle.serf_judge_json.proofs.TextLaws.{all-joined}
use Rattle.serf_judge_json.proofs.judging.judgement_objects.Goals as goal

pub returns : goal.returns
returns c =
    let out = c.args.out.now.items in
    let log = c.args.log.now in
    let places = c.args.places.now in
    let found = c.in_ok-found.found in
    let lines = c.in_ok-write_lines.ensures ∙ (λ k. c.in_ok-write_read.ensures k ++ lines_text (c.new-finder.ensures k) log) in
    let verdicts = c.in_ok-write_verdicts.ensures ∙ (λ k. lines k ++ verdicts_text (c.new-finder.ensures k) log found) in
    let missed = c.in_ok-write_missed.ensures ∙ (λ k. verdicts k ++ missed_text (c.as_slice.ensures.value k)) in
    let runs = c.in_ok-write_runs.ensures ∙ (λ k. missed k ++ runs_text (c.new-finder.ensures k) (c.as_slice-2.ensures.value k)) in (
      found,
      c.in_ok-found.ensures,
      c.is_broken.ensures,
      runs ∙ all-joined out (read_text log) (lines_text places log) (verdicts_text places log found) (missed_text log.events.items) (runs_text places log.runs.items),
    )
