use Rattle.serf_judge_json.proofs.Names.{List, [], ap, drop, map, map-append, map_more, subst, sym, take, take-append-drop, ◌++◌, ◌+◌, ◌∙◌, ◌∷◌, ◌≡◌, ℕ, flat_map, repeats_among, Identity}
use Rattle.serf_judge_json.specs.Repeats.{AreFirsts}
use Rattle.serf_judge_json.proofs.RepeatLaws.{repeats-step, text_in}
use Rattle.serf_judge_json.proofs.repeats.write_repeats.Goals as goal

pub loop-entry-preserved : goal.loop-entry-preserved
loop-entry-preserved g c =
    let seen = g.E.Delivered.seen in
    let entries = c.args.entries.now in
    let i = c.loop-entry.entry-index in
    let item = c.entry-item.result in
    let out = c.args.out.now.items in
    let lines : List (ℕ × Identity) = map seen (take i entries) in
    let all : List (ℕ × Identity) = map seen entries in
    let rest : List (ℕ × Identity) = map seen (drop i entries) in
    let next : lines ++ seen item ∷ [] ≡ map seen (take (i + 1) entries) = sym (map_more seen entries i item c.loop-entry-test.true ∙ ap (λ e. lines ++ seen e ∷ []) (sym c.entry-item.is)) in
    let split : all ≡ lines ++ rest = ap (map seen) (sym (take-append-drop i entries)) ∙ map-append seen (take i entries) (drop i entries) in
    let step = c.in_ok-write_if_again.ensures lines c.loop-entry.invariant.recorded in
    record {
      recorded = subst (λ (ls : List (ℕ × Identity)). AreFirsts ls c.write_if_again.new.firsts) (ap (λ l. lines ++ l ∷ []) c.handed.ensures ∙ next) step.0;
      written = subst (λ (ls : List (ℕ × Identity)). c.write_if_again.new.out.items ≡ out ++ flat_map (text_in c.args.finder.now.places c.args.kind all) (repeats_among ls)) next
          (repeats-step c.args.finder.now.places c.args.kind all lines rest (seen item) _ out c.loop-entry.out.items c.write_if_again.new.out.items split c.handed.ensures c.loop-entry.invariant.written step.1);
    }
