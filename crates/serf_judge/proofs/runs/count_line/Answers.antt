use Rattle.serf_judge.proofs.Names.{ap, cond, get, is_some, min, not, sym, ℕ, ◌&&◌, ◌+◌, ◌-◌, ◌==◌, ◌^◌, ◌∙◌, ◌∷◌, ◌≡◌, Identity, key_eq, key_identity, Run, ends_of, run_seen}
use Rattle.serf_judge.proofs.RunLaws.{at-its-event, line-counted, some-map}
use Rattle.serf_judge.proofs.runs.count_line.Goals as goal

pub returns : goal.returns
returns c = λ later h.
    let line : ℕ × Run = run_seen c.args.run.now in
    let key = c.handed.result.key in
    let same : key_identity key ≡ line.1.event = ap (λ (p : ℕ × Identity). p.1) c.handed.ensures in
    let has_ended : c.is_some-has_ended.result ≡ is_some line.1.status = c.is_some-has_ended.ensures ∙ sym (some-map (λ word. word.items) c.args.run.now.status) in
    let ends : c.ends_at-ends.result ≡ ends_of line.1.event later = c.ends_at-ends.ensures later h ∙ ap (λ i. ends_of i later) same in
    let n : c.ends_with.result ≡ ends_of line.1.event (line ∷ later) = c.ends_with.ensures ∙ (λ k. cond (has_ended k) (min (ends k + 1) (2 ^ 64 - 1)) (ends k - 1)) ∙ sym (at-its-event line later) in (
      c.is_unended.ensures ∙ (λ k. not (has_ended k) && ends k == 0),
      line-counted later line key c.ends_with.result (λ q. get key_eq c.args.counts.now q) (λ q. get key_eq c.insert.new.self q) h same n (λ q. c.in_ok-insert.ensures.updates.0 q),
    )
