use Rattle.serf_judge.proofs.Names.{Bor, List, ap, map, sym, ℕ, ◌∙◌, ◌≡◌, words_of, log_view}
use Rattle.serf_judge.proofs.LogLaws.{line-of-words}
use Rattle.serf_judge.proofs.log.Log.add_line.Goals as goal

pub returns : goal.returns
returns c =
    let line = c.args.line.now in
    let n = c.args.number in
    let texts : List (Bor (List ℕ)) → List (List ℕ) = λ ws. map (λ w. w.now) ws in
    let first : texts c.as_slice.result.now ≡ words_of line = ap texts c.as_slice.ensures.value ∙ c.in_ok-words.ensures in
    let again : texts c.as_slice-2.result.now ≡ words_of line = ap texts c.as_slice-2.ensures.value ∙ c.in_ok-words.ensures in
    let said = sym c.is_comment_line.ensures ∙ c.if-is_comment_line.false in
    line-of-words (log_view c.args.self.now) (log_view c.add_date.new.self) (log_view c.add_words.new.self) n line _ _ c.add_words.result said first again c.in_ok-add_date.ensures c.add_words.ensures
