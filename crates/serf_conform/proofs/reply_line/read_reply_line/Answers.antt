use Rattle.serf_conform.proofs.Names.{List, [], ap, arith, length, map, subst, sym, ℕ, ◌++◌, ◌<◌, ◌∙◌, ◌≡◌, ◌≤◌, common_steps, Result, Gives, words_of, Cause, ReplyLine}
use Rattle.serf_conform.proofs.LineLemmas.{long_line, short_line}
use Rattle.serf_conform.proofs.reply_line.read_reply_line.Goals as goal

pub returns-then-not-is_empty : goal.returns-then-not-is_empty
returns-then-not-is_empty c =
    let rest : List ℕ = c.in_ok-rest.rest.now in
    let words : List (List ℕ) = map (λ w. w.now) c.split_words_into.new.words.items in
    let some : 0 < length rest = grind (arith, common_steps) in
    let full = c.in_ok-rest.ensures.full some in
    let eight : length words ≡ 8 = grind (arith, common_steps, full.0) in
    long_line (words_of c.args.line.now) words (words_of rest) c.in_ok-rest.ensures.joined eight full.1

pub returns : goal.returns
returns c =
    let rest : List ℕ = c.in_ok-rest.rest.now in
    let words : List (List ℕ) = map (λ w. w.now) c.deref.result.now in
    let given : words ≡ map (λ w. w.now) c.split_words_into.new.words.items = ap (map (λ w. w.now)) c.deref.ensures.value in
    let none : rest ≡ [] = grind (arith, common_steps) in
    let joined : words ++ [] ≡ words_of c.args.line.now =
    subst (λ (r : List ℕ). words ++ words_of r ≡ words_of c.args.line.now) none (ap (λ (x : List (List ℕ)). x ++ words_of rest) given ∙ c.in_ok-rest.ensures.joined) in
    let few : length words ≤ 8 = grind (arith, common_steps, ap length given) in
    subst (λ (s : Result ReplyLine Cause). Gives (λ l. l) c.line_in.result s) (sym (short_line (words_of c.args.line.now) words joined few)) c.line_in.ensures
