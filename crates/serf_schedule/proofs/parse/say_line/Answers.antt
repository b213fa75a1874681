use Rattle.serf_schedule.proofs.Names.{List, arith, length, map, subst, take, ℕ, ◌<◌, ◌∙◌, ◌≡◌, ◌≤◌, common_steps, length-map, Gives, words_of, Cause, Parsed, following}
use Rattle.std.specs.Prelude.{Result}
use Rattle.serf_schedule.proofs.WordLemmas.{line-said}
use Rattle.serf_schedule.proofs.parse.say_line.Goals as goal

pub returns-clause-said : goal.returns-clause-said
returns-clause-said c = λ before held.
    let words : List (List ℕ) = map (λ w. w.now) (take c.split_words-count.result.1 c.split_words-count.result.0) in
    let rest : List ℕ = c.split_words-count.result.2.now in
    let count : length words ≡ c.split_words-count.result.1 = length-map (take c.split_words-count.result.1 c.split_words-count.result.0) (λ w. w.now) ∙ c.split_words-count.ensures.counted in
    let some : 0 < length words = grind (arith, common_steps, count) in
    let few : length words ≤ 8 = grind (arith, common_steps, count) in
    let full : 0 < length rest → (length words ≡ 8) × (0 < length (words_of rest)) =
    λ more. let f = c.split_words-count.ensures.full more in (count ∙ f.0, f.1) in
    let whole = line-said before c.args.line.now words rest (grind (arith, common_steps)) c.split_words-count.ensures.joined some few full in
    subst (λ (s : Result Parsed Cause). Gives (following c.args.is_late before c.read_words.new.agents) c.read_words.result s) whole (c.read_words.ensures.said before held)
