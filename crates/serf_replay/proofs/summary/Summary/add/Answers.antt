use Rattle.serf_replay.proofs.Names.{[], arith, length, length-append, ℕ, ◌+◌, ◌∷◌, ◌≡◌, common_steps, Line, hand_outs_from, numbered_from}
use Rattle.serf_replay.proofs.RecordLaws.{handed-push, numbered-push}
use Rattle.serf_replay.proofs.summary.Summary.add.Goals as goal

pub returns : goal.returns
returns c = λ lines h.
    let line : Line = c.args.line.now in
    let action : ℕ = c.in-Some.action in
    let next : action ≡ 0 + length lines + 1 = let counted = h.counted in grind (arith, common_steps) in
    let answers = c.in_ok-record_answer.ensures (numbered_from 0 lines) h.answers in
    let handed = c.in_ok-record_events.ensures (hand_outs_from 0 lines) h.hand_outs in
    record {
      counted = let more = length-append lines (line ∷ []) in omega (arith, next, more);
      answers = rw (numbered-push 0 action lines line next) answers;
      hand_outs = rw (handed-push 0 action lines line next) (rw c.as_slice-events.ensures at handed);
    }
