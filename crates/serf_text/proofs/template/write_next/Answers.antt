use Rattle.serf_text.proofs.Names.{List, [], ap, append-nil, append_assoc, drop, filled, length, sym, take, ℕ, ◌++◌, ◌+◌, ◌-◌, ◌∙◌}
use Rattle.serf_text.proofs.TemplateLemmas.{none-filled, nothing-filled, some-filled}
use Rattle.serf_text.proofs.template.write_next.Goals as goal

pub returns-in_ok-write_to-in-Some : goal.returns-in_ok-write_to-in-Some
returns-in_ok-write_to-in-Some g c = λ parts.
    let words = g.P.TemplatePart.text in
    let text : List ℕ = c.args.text.now in
    let k : ℕ = c.in-Some.at in
    let out : List ℕ = c.args.out.now.items in
    let filling : List ℕ = words c.args.part.now in
    let rest : List ℕ = filled words (take (length text - (k + 1)) (drop (k + 1) text)) parts in
    ap (λ (t : List ℕ). t ++ rest) (c.in_ok-write_to-in-Some.ensures ∙ ap (λ (t : List ℕ). t ++ filling) c.in_ok-extend_from_slice-in-Some.ensures.items)
    ∙ append_assoc (out ++ take k text) filling rest
    ∙ append_assoc out (take k text) (filling ++ rest)
    ∙ ap (λ (t : List ℕ). out ++ t) (sym (some-filled words text k c.args.part.now parts (sym c.in-Some.ensures.place)))

pub returns-in_ok-extend_from_slice-in-None : goal.returns-in_ok-extend_from_slice-in-None
returns-in_ok-extend_from_slice-in-None g c = λ parts.
    let words = g.P.TemplatePart.text in
    let text : List ℕ = c.args.text.now in
    let out : List ℕ = c.args.out.now.items in
    ap (λ (t : List ℕ). t ++ filled words [] parts) c.in_ok-extend_from_slice-in-None.ensures.items
    ∙ ap (λ (r : List ℕ). (out ++ text) ++ r) (nothing-filled words parts)
    ∙ append-nil (out ++ text)
    ∙ ap (λ (t : List ℕ). out ++ t) (sym (none-filled words text c.args.part.now parts c.in-None.ensures.none))
