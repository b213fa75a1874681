use Rattle.serf_judge_json.proofs.Names.{map, take, ◌++◌, ◌≡◌, flat_map, unwrap_or, repeats_among}
use Rattle.serf_judge_json.specs.Repeats.{AreFirsts, first_of, repeat_text}
use Rattle.serf_judge_json.proofs.repeats.write_repeats.Given as goal

-- the first of the entries are recorded, and those of them that repeat an earlier one were written
abbrev pub invariant-loop-entry : goal.invariant-loop-entry
invariant-loop-entry g l =
    let seen = g.E.Delivered.seen in
    let lines = map seen (take l.entry-index l.entries) in
    record {
      recorded : AreFirsts lines l.firsts;
      written : l.out.items ≡ l.fn.out.items ++ flat_map (λ line. repeat_text l.finder.places l.kind line (unwrap_or (first_of (map seen l.entries) line.1) 0)) (repeats_among lines);
    }
