use Rattle.serf_judge.proofs.Names.{List, [], ap, map, nil_from_length, reverse, sym, ℕ, ◌++◌, ◌∙◌, ◌∷◌, ◌≡◌, map-append, handed_seen, Run, cut_off_of, run_seen}
use Rattle.serf_judge.proofs.RunLaws.{found-kept, found-moved, parts-moved, map-reversed}
use Rattle.serf_judge.proofs.runs.cut_off.Goals as goal

pub runs-preserved-in_ok-push : goal.runs-preserved-in_ok-push
runs-preserved-in_ok-push c =
    let inv = c.runs.invariant in
    let line : ℕ × Run = run_seen c.in-Some.run'.now in
    let step = c.in_ok-count_line.ensures inv.0 inv.2 in
    let rest = map-append run_seen c.in-Some.before.now (c.in-Some.run'.now ∷ []) in
    let parts = ap (λ (ls : List (ℕ × Run)). ls ++ inv.0) (sym rest ∙ ap (map run_seen) (sym c.in-Some.ensures.cases.0)) ∙ inv.1 in
    let found = ap (λ ds. reverse (map handed_seen ds)) c.in_ok-push.ensures.items ∙ ap reverse (map-append handed_seen c.runs.found.items (c.handed.result ∷ [])) in (
      line ∷ inv.0,
      parts-moved (map run_seen c.in-Some.before.now) inv.0 (map run_seen c.args.runs.now) line parts,
      step.1,
      found ∙ found-moved (map handed_seen c.runs.found.items) (handed_seen c.handed.result) line inv.0 c.handed.ensures (sym step.0 ∙ c.if-branch.true) inv.3,
    )

pub runs-preserved : goal.runs-preserved
runs-preserved c =
    let inv = c.runs.invariant in
    let line : ℕ × Run = run_seen c.in-Some.run'.now in
    let step = c.in_ok-count_line.ensures inv.0 inv.2 in
    let rest = map-append run_seen c.in-Some.before.now (c.in-Some.run'.now ∷ []) in
    let parts = ap (λ (ls : List (ℕ × Run)). ls ++ inv.0) (sym rest ∙ ap (map run_seen) (sym c.in-Some.ensures.cases.0)) ∙ inv.1 in (
      line ∷ inv.0,
      parts-moved (map run_seen c.in-Some.before.now) inv.0 (map run_seen c.args.runs.now) line parts,
      step.1,
      found-kept (map handed_seen c.runs.found.items) line inv.0 (sym step.0 ∙ c.if-branch.false) inv.3,
    )

pub returns : goal.returns
returns c =
    let inv = c.runs.invariant in
    let none = nil_from_length c.runs.rest.now c.in_default.ensures.cases in
    let all : inv.0 ≡ map run_seen c.args.runs.now = ap (λ rs. map run_seen rs ++ inv.0) (sym none) ∙ inv.1 in
    ap (map handed_seen) c.reverse.ensures.items ∙ map-reversed handed_seen c.runs.found.items ∙ inv.3 ∙ ap cut_off_of all
