use Rattle.serf_judge.proofs.Names.{Bor, List, ap, arith, length, map, sym, ℕ, ◌<◌, ◌∙◌, ◌≡◌, common_steps, length-map, map_push, key_content, missing_view, texts_of}
use Rattle.serf_judge.proofs.MissedLaws.{put-none, put-some}
use Rattle.serf_judge.proofs.missed.write_missed.Goals as goal

pub returns-then-no_node_missed : goal.returns-then-no_node_missed
returns-then-no_node_missed c =
    let none : length c.as_slice.result.now ≡ 0 = grind (arith, common_steps) in
    put-none (map missing_view c.args.missed.now.items) (key_content c.args.event) (texts_of c.args.nodes.items)
    (length-map c.args.nodes.items (λ (t : Bor (List ℕ)). t.now) ∙ ap length (sym c.as_slice.ensures.value) ∙ none)

pub returns : goal.returns
returns c =
    let some : 0 < length c.as_slice.result.now = grind (arith, common_steps) in
    let size = ap length c.as_slice.ensures.value in
    let told : 0 < length (texts_of c.args.nodes.items) = omega (arith, some, size, length-map c.args.nodes.items (λ (t : Bor (List ℕ)). t.now)) in
    ap (map missing_view) c.in_ok-push.ensures.items
    ∙ map_push missing_view c.args.missed.now.items (record { time = c.args.event.time; name = c.args.event.name; payload = c.args.event.payload; nodes = c.args.nodes })
    ∙ put-some (map missing_view c.args.missed.now.items) (key_content c.args.event) (texts_of c.args.nodes.items) told
