use Rattle.serf_judge_json.proofs.Names.{Bool, None, Some, ap, length, ltb-false, ltb-true, option_map, refl, slice_get, slice_get_past, slice_get_read, sym, ◌∙◌, ◌≡◌, is_again}
use Rattle.serf_judge_json.proofs.KeptLaws.{place-found}
use Rattle.serf_judge_json.proofs.kept.find_again.Goals as goal

pub returns-in-Some-get : goal.returns-in-Some-get
returns-in-Some-get g c =
    let seen = g.E.Delivered.seen in
    let entries = c.args.entries.now in
    let kept = c.args.kept.now in
    let entry = c.in-Some-get.entry.now in
    let p : g.row.E.Denot → Bool = is_again g.E.Offered.kind seen g.E.Offered.is_new kept.reader kept.snapshot.now kept.node.now in
    let there : slice_get entries c.in-Some.place ≡ Some entry = slice_get_read entries (length entries) c.in-Some.place entry refl (ltb-true _ _ (sym c.in-Some-get.ensures.lookup.0)) c.in-Some-get.ensures.lookup.1 in
    ap Some c.handed.ensures ∙ ap (option_map seen) (sym there ∙ place-found p entries (Some c.in-Some.place) (sym c.in-Some.is ∙ c.in_ok-place.ensures))

pub returns-in-None-get : goal.returns-in-None-get
returns-in-None-get g c =
    let seen = g.E.Delivered.seen in
    let entries = c.args.entries.now in
    let kept = c.args.kept.now in
    let p : g.row.E.Denot → Bool = is_again g.E.Offered.kind seen g.E.Offered.is_new kept.reader kept.snapshot.now kept.node.now in
    let past : slice_get entries c.in-Some.place ≡ None = slice_get_past entries c.in-Some.place (ltb-false _ _ (sym c.in-None-get.ensures.lookup.0)) in
    ap (option_map seen) (sym past ∙ place-found p entries (Some c.in-Some.place) (sym c.in-Some.is ∙ c.in_ok-place.ensures))

pub returns-in-None : goal.returns-in-None
returns-in-None g c =
    let seen = g.E.Delivered.seen in
    let kept = c.args.kept.now in
    let p : g.row.E.Denot → Bool = is_again g.E.Offered.kind seen g.E.Offered.is_new kept.reader kept.snapshot.now kept.node.now in
    ap (option_map seen) (place-found p c.args.entries.now None (sym c.in-None.is ∙ c.in_ok-place.ensures))
