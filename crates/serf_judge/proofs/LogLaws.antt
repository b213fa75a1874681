-- What a line adds to a log, by its words.
use Rattle.serf_judge.proofs.Names.{List, Ok, OnOk, Result, [], ap, false, sym, ℕ, ◌∙◌, ◌≡◌, on_ok_weaker, if◌then◌else◌, words_of, after_date, date_text, nothing, LogView, is_comment, with_date, with_line, with_said, words_said}

by-words : (log : LogView) (n : ℕ) (line : List ℕ) → is_comment line ≡ false
    → with_said (with_date log n (date_text (words_of line))) n (words_said (after_date (words_of line))) ≡ with_line log n line
by-words log n line none = sym (ap (λ b. with_said (with_date log n (if b then [] else date_text (words_of line))) n (if b then Ok nothing else words_said (after_date (words_of line)))) none)

-- its date is added first, and then what it says
pub line-of-words : {T E : Type 0} (log dated said : LogView) (n : ℕ) (line : List ℕ) (first again : List (List ℕ)) (r : Result T E)
    → is_comment line ≡ false → first ≡ words_of line → again ≡ words_of line → dated ≡ with_date log n (date_text first)
    → OnOk r (said ≡ with_said dated n (words_said (after_date again))) → OnOk r (said ≡ with_line log n line)
line-of-words log dated said n line first again r none is_first is_again date says = on_ok_weaker r more says
  where
    more : said ≡ with_said dated n (words_said (after_date again)) → said ≡ with_line log n line
    more e =
        e ∙ ap (λ ws. with_said dated n (words_said (after_date ws))) is_again
        ∙ ap (λ l. with_said l n (words_said (after_date (words_of line)))) (date ∙ ap (λ ws. with_date log n (date_text ws)) is_first)
        ∙ by-words log n line none
