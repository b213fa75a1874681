use Rattle.serf_draw.proofs.Names.{List, [], ap, sym, take, take_all, ◌++◌, ◌+◌, ◌∙◌, ◌∷◌, ◌≡◌, flat_map_more, take_more, flat_map}
use Rattle.serf_draw.proofs.filled.write_each.Goals as goal

pub loop-item-preserved : goal.loop-item-preserved
loop-item-preserved g c = λ text puts.
    let out = c.args.out.now.items in
    let items = c.args.items.now in
    let i = c.loop-item.item-index in
    let item = c.item-item.result in
    let more : take (i + 1) items ≡ take i items ++ item ∷ [] = take_more items i item c.loop-item-test.true ∙ ap (λ x. take i items ++ x ∷ []) (sym c.item-item.is) in
    puts _ _ _ _ c.in_ok-put.ensures
    ∙ ap (λ o. o ++ text item) (c.loop-item.invariant text puts)
    ∙ flat_map_more text out (take i items) item
    ∙ ap (λ (xs : List g.row.T.Denot). out ++ flat_map text xs) (sym more)

pub returns : goal.returns
returns g c = λ text puts.
    c.loop-item.invariant text puts ∙ ap (λ (xs : List g.row.T.Denot). c.args.out.now.items ++ flat_map text xs) (take_all c.loop-item.item-index c.args.items.now c.loop-item-test.false)
