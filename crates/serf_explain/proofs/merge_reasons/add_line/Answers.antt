use Rattle.serf_explain.proofs.Names.{List, None, OnOk, Option, Some, ap, subst, sym, ℕ, ◌∙◌, ◌≡◌, on_ok_weaker, Reason, Seen, AddsJudged, event_as}
use Rattle.serf_explain.proofs.merge_reasons.add_line.Goals as goal

pub returns-in-Seen : goal.returns-in-Seen
returns-in-Seen c = λ i j h is.
    let old = c.args.lines.now.text.items in
    let new = c.add_seen.new.lines.text.items in
    let seen : c.args.verdict ≡ Some Seen = c.in-Some.is ∙ ap (λ (r : Reason). Some r) c.in-Seen.is in
    subst (λ (v : Option Reason). OnOk c.add_seen.result (AddsJudged c.args.merging.now c.args.judge.now i j c.args.slot (event_as c.args.event.now) v old new)) (sym seen)
    (on_ok_weaker c.add_seen.result (λ one. record { handed = c.handed_at-handed.result; added = one; named = λ q. c.handed_at-handed.ensures.handed i j h (sym is ∙ seen) }) c.add_seen.ensures)

pub returns-in_default : goal.returns-in_default
returns-in_default c = λ i j h is.
    let old = c.args.lines.now.text.items in
    let new = c.add_carried.new.lines.text.items in
    subst (λ (v : Option Reason). OnOk c.add_carried.result (AddsJudged c.args.merging.now c.args.judge.now i j c.args.slot (event_as c.args.event.now) v old new)) (sym c.in-Some.is)
    (on_ok_weaker c.add_carried.result (λ one. record { handed = None; added = one; named = λ q. absurd (c.in_default.not-Seen (let both : Some c.in-Some.reason ≡ Some Seen = q in cc both)) }) c.add_carried.ensures)

pub returns-in-None : goal.returns-in-None
returns-in-None c = λ i j h is.
    let old = c.args.lines.now.text.items in
    let new = c.add_carried-in-None.new.lines.text.items in
    subst (λ (v : Option Reason). OnOk c.add_carried-in-None.result (AddsJudged c.args.merging.now c.args.judge.now i j c.args.slot (event_as c.args.event.now) v old new)) (sym c.in-None.is)
    (on_ok_weaker c.add_carried-in-None.result (λ one. record { handed = None; added = one; named = λ q. absurd (cc q) }) c.add_carried-in-None.ensures)
