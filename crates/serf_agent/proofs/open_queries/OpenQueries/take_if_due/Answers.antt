use Rattle.serf_agent.proofs.Names.{Some, ap, arith, map, refl, sym, ℕ, ◌<◌, ◌∙◌, ◌≡◌, lt-ltb, slice_get-map, slice_get, option_map, OpenQuery}
use Rattle.serf_agent.proofs.open_queries.OpenQueries.take_if_due.Goals as goal

pub returns-clause-taken : goal.returns-clause-taken
returns-clause-taken c =
    let es = c.self.inside.queries.entries in
    let there : Some (c.in_ok-time.time.now, c.in_ok-time.query.now) ≡ slice_get es c.args.index = c.in_ok-time.ensures.entry in
    let value : Some c.in_ok-query.query.now ≡ slice_get (map (λ (q : ℕ × OpenQuery). q.1) es) c.args.index = c.in_ok-query.ensures.value in
    let same : Some c.in_ok-query.query.now ≡ Some c.in_ok-time.query.now = value ∙ slice_get-map (λ (q : ℕ × OpenQuery). q.1) es c.args.index ∙ ap (option_map (λ (q : ℕ × OpenQuery). q.1)) (sym there) in
    let read : c.take.result ≡ c.in_ok-time.query.now = c.take.ensures.taken ∙ cc in
    let deadline : c.take.result.deadline ≡ c.in_ok-time.query.now.deadline = ap (λ (q : OpenQuery). q.deadline) read in
    let low : c.in_ok-time.query.now.deadline < c.args.now = omega (arith, c.if-query-now.false) in
    rw (← c.self.view_is) (record {
      was = sym there ∙ ap (λ (q : OpenQuery). Some (c.in_ok-time.time.now, q)) (sym read);
      due = lt-ltb c.take.result.deadline c.args.now (omega (arith, deadline, low));
      left = c.take.new.self;
      same = c.take.ensures.left ∙ ap (λ (q : OpenQuery). q.deadline) (sym c.take.ensures.taken);
      is = refl;
    })
