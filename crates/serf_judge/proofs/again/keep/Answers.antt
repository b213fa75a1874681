use Rattle.serf_judge.proofs.Names.{List, [], ap, false, subst, sym, true, ◌++◌, ◌∙◌, ◌∷◌, append-nil, contains, beq, AreKept}
use Rattle.serf_judge.proofs.AgainLaws.{is-dropped, is-kept, kept-more}
use Rattle.serf_judge.proofs.again.keep.Goals as goal

pub returns-then-is_new-again : goal.returns-then-is_new-again
returns-then-is_new-again g c = λ key_of items is h.
    let eq = g.K.PartialEq.eq in
    let dropped = is-dropped c.args.again (contains eq c.args.recorded.now c.args.key) (ap (λ r. beq r c.args.again) (sym c.in_ok-is_new.ensures.added) ∙ c.if-is_new-again.true) in
    subst (λ (found : List g.row.T.Denot). AreKept c.args.again eq key_of (items ++ c.args.item ∷ []) found (λ q. contains eq c.insert.new.self q)) (append-nil c.args.found.now.items)
    (kept-more c.args.again eq (λ x y. g.met.K.Eq.laws.symm x y) key_of items c.args.found.now.items c.args.item c.args.key false (λ q. contains eq c.args.recorded.now q) (λ q. contains eq c.insert.new.self q) is h dropped (λ q. c.in_ok-is_new.ensures.updates.0 q))

pub returns : goal.returns
returns g c = λ key_of items is h.
    let eq = g.K.PartialEq.eq in
    let stays = is-kept c.args.again (contains eq c.args.recorded.now c.args.key) (ap (λ r. beq r c.args.again) (sym c.in_ok-is_new.ensures.added) ∙ c.if-is_new-again.false) in
    let more = kept-more c.args.again eq (λ x y. g.met.K.Eq.laws.symm x y) key_of items c.args.found.now.items c.args.item c.args.key true (λ q. contains eq c.args.recorded.now q) (λ q. contains eq c.insert.new.self q) is h stays (λ q. c.in_ok-is_new.ensures.updates.0 q) in
    rw c.in_ok-push.ensures.items more
