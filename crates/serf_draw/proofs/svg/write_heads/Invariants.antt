use Rattle.serf_draw.proofs.Names.{map, ◌*◌, ◌++◌, ◌≡◌, flat_map, range_with_len, head_text, line_above}
use Rattle.serf_draw.proofs.svg.write_heads.Given as goal

-- the names on as many lines as were written so far
abbrev pub invariant-loop-part : goal.invariant-loop-part
invariant-loop-part l = l.out.items ≡ l.fn.out.items
    ++ flat_map (head_text l.outside l.lanes) (map (λ k. line_above (40 * k)) (range_with_len 0 l.part))
