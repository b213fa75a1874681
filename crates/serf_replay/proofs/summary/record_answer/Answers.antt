use Rattle.serf_replay.proofs.Names.{Bor, List, ap, refl, sym, ℕ, bytes_eq, get, Line, answer_words}
use Rattle.serf_replay.proofs.KeyLaws.{same-words}
use Rattle.serf_replay.proofs.TallyLaws.{recorded-more, on-ok-both, order-more}
use Rattle.serf_replay.proofs.summary.record_answer.Goals as goal

pub returns : goal.returns
returns c = λ records h.
    let key : Bor (List ℕ) = c.answer_words.result in
    let line : Line = c.args.line.now in
    on-ok-both c.count_one.result
    (λ f g. record {
      answers_are = λ q. recorded-more (λ k l. bytes_eq (answer_words l.answer) k.now) records line key c.args.action (λ k. get (λ x y. bytes_eq x.now y.now) c.args.answers.now k) (λ k. get (λ x y. bytes_eq x.now y.now) c.count_one.new.found k) q (bytes_eq key.now q.now)
          h.answers_are (f q) (ap (λ (t : List ℕ). bytes_eq t q.now) (sym c.answer_words.ensures)) (same-words key q);
      answers_order = order-more (λ x y. bytes_eq x.now y.now) bytes_eq (λ k. k.now) (λ x y. refl) (λ n. answer_words n.0.answer) records (line, c.args.action) c.args.answers.now.entries c.count_one.new.found.entries key _ g c.answer_words.ensures h.answers_order;
    })
    c.count_one.ensures.frequency c.count_one.ensures.order
