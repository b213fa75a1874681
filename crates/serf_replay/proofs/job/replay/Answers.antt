use Rattle.serf_replay.proofs.Names.{List, Ok, length, subst, ℕ, ◌∙◌, ◌≡◌, ◌≤◌}
use Rattle.std.specs.Io.KnownBytes.{Appends}
use Rattle.std.proofs.lemmas.Option.{IfSome_then}
use Rattle.serf_text.specs.Io.{AppendsFront}
use Rattle.serf_schedule.specs.Output.{output_of}
use Rattle.serf_replay.specs.Output.{TracesRun, longest_schedule}
use Rattle.serf_replay.proofs.job.replay.Goals as goal

pub returns-in-Ok-clause-done : goal.returns-in-Ok-clause-done
returns-in-Ok-clause-done g c =
    let text = c.in_ok-text.text.items in
    IfSome_then (g.R.Read.remaining c.args.reader.now) c.in_ok-input.ensures.all (λ input is. (
      text,
      subst (λ (i : List ℕ). output_of i ≡ Ok text) (c.deref.ensures.value ∙ is) c.in_ok-text.ensures.text,
      subst (λ (i : List ℕ). length i ≤ longest_schedule) is c.in_ok-input.ensures.short,
      subst (λ (i : List ℕ). TracesRun i text) (c.deref.ensures.value ∙ is) c.in_ok-text.ensures.run,
      subst (λ (t : List ℕ). Appends (g.W.Write.contents c.args.writer.now) (g.W.Write.contents c.write_output.new.writer) t) c.deref-2.ensures.value c.in-Ok.ensures.done,
    ))

pub returns-clause-front : goal.returns-clause-front
returns-clause-front g c failed =
    let text = c.in_ok-text.text.items in
    IfSome_then (g.R.Read.remaining c.args.reader.now) c.in_ok-input.ensures.all (λ input is. (
      text,
      subst (λ (i : List ℕ). output_of i ≡ Ok text) (c.deref.ensures.value ∙ is) c.in_ok-text.ensures.text,
      subst (λ (i : List ℕ). length i ≤ longest_schedule) is c.in_ok-input.ensures.short,
      subst (λ (i : List ℕ). TracesRun i text) (c.deref.ensures.value ∙ is) c.in_ok-text.ensures.run,
      subst (λ (t : List ℕ). AppendsFront (g.W.Write.contents c.args.writer.now) (g.W.Write.contents c.write_output.new.writer) t) c.deref-2.ensures.value c.in-Err.ensures.front,
    ))
