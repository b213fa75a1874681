use Rattle.serf_agent_c.proofs.Names.{Err, List, None, Ok, Result, Some, ap, subst, sym, ℕ, ◌<◌, ◌∙◌, ◌≡◌, ◌≤◌, DeliveredQuery, Reply, RespondError, left_of, reply_of}
use Rattle.std.proofs.Common.{All, AllPairs}
use Rattle.serf_agent_c.proofs.NumberedLaws.{at-none, at-place, filled, put-back-same, query-is, replied-err, replied-ok}
use Rattle.serf_agent_c.proofs.waiting.Waiting.respond.Goals as goal

pub returns-in_default-clause-some : goal.returns-in_default-clause-some
returns-in_default-clause-some c = λ q some other.
    let n = at-none c.args.number c.args.self.now.queries.items c.as_slice.result.now c.place_of.result c.as_slice.ensures.value c.place_of.ensures c.in_default.is in
    let no : None ≡ Some q = sym n.none ∙ some in
    cc

pub invariant_of-self-in-Err : goal.invariant_of-self-in-Err
invariant_of-self-in-Err c =
    let ws = c.args.self.now.queries.items in
    let handed = c.args.self.now.handed in
    let t = at-place c.args.number ws c.as_slice.result.now c.place_of.result c.in-Some.index c.as_slice.ensures.value c.place_of.ensures c.in-Some.is in
    let same : c.put_back.new.queries.items ≡ ws = put-back-same c.args.number ws c.in-Some.index t c.remove-number.result c.remove-number.new.self.items c.put_back.new.queries.items c.in-Err.query c.remove-number.ensures.value c.remove-number.ensures.items c.in-Err.ensures.back c.put_back.ensures in
    record {
      room = c.args.self.now.room;
      below = subst (λ (l : List (ℕ × DeliveredQuery)). All (λ w. w.0 ≤ handed) l) (sym same) c.args.self.now.below;
      once = subst (λ (l : List (ℕ × DeliveredQuery)). AllPairs (λ v w. v.0 < w.0) l) (sym same) c.args.self.now.once;
    }

pub returns-in-Ok-clause-none : goal.returns-in-Ok-clause-none
returns-in-Ok-clause-none c = λ none.
    let t = at-place c.args.number c.args.self.now.queries.items c.as_slice.result.now c.place_of.result c.in-Some.index c.as_slice.ensures.value c.place_of.ensures c.in-Some.is in
    let no : Some t.query ≡ None = sym t.found ∙ none in
    cc

pub returns-in-Ok-clause-some : goal.returns-in-Ok-clause-some
returns-in-Ok-clause-some c = λ q some other.
    let ws = c.args.self.now.queries.items in
    let handed = c.args.self.now.handed in
    let t = at-place c.args.number ws c.as_slice.result.now c.place_of.result c.in-Some.index c.as_slice.ensures.value c.place_of.ensures c.in-Some.is in
    let same : q ≡ c.remove-number.result.1 = query-is c.args.number ws c.in-Some.index t c.remove-number.result q c.remove-number.ensures.value some in
    let reply : Ok c.in-Ok.reply ≡ reply_of q c.args.now c.args.payload.now = replied-ok q c.remove-number.result.1 c.args.now c.args.payload.now c.in-Ok.reply same c.in-Ok.ensures.answered c.in-Ok.ensures.reply in (
      ap (λ (r : Result Reply RespondError). Some r) reply,
      ap (λ (l : List (ℕ × DeliveredQuery)). filled handed l) (c.remove-number.ensures.items ∙ t.left) ∙ ap (λ (r : Result Reply RespondError). left_of c.args.number r (filled handed ws)) reply,
    )

pub returns-in-Err-clause-none : goal.returns-in-Err-clause-none
returns-in-Err-clause-none c = λ none.
    let t = at-place c.args.number c.args.self.now.queries.items c.as_slice.result.now c.place_of.result c.in-Some.index c.as_slice.ensures.value c.place_of.ensures c.in-Some.is in
    let no : Some t.query ≡ None = sym t.found ∙ none in
    cc

pub returns-in-Err-clause-some : goal.returns-in-Err-clause-some
returns-in-Err-clause-some c = λ q some other.
    let ws = c.args.self.now.queries.items in
    let handed = c.args.self.now.handed in
    let t = at-place c.args.number ws c.as_slice.result.now c.place_of.result c.in-Some.index c.as_slice.ensures.value c.place_of.ensures c.in-Some.is in
    let same : q ≡ c.remove-number.result.1 = query-is c.args.number ws c.in-Some.index t c.remove-number.result q c.remove-number.ensures.value some in
    let known = c.in-Err.ensures.error (λ out. other (ap (λ (f : RespondError). Some (Err f)) out)) in
    let error : Err c.in-Err.error ≡ reply_of q c.args.now c.args.payload.now = replied-err q c.remove-number.result.1 c.args.now c.args.payload.now c.in-Err.error same known in
    let back : c.put_back.new.queries.items ≡ ws = put-back-same c.args.number ws c.in-Some.index t c.remove-number.result c.remove-number.new.self.items c.put_back.new.queries.items c.in-Err.query c.remove-number.ensures.value c.remove-number.ensures.items c.in-Err.ensures.back c.put_back.ensures in (
      ap (λ (r : Result Reply RespondError). Some r) error,
      ap (λ (l : List (ℕ × DeliveredQuery)). filled handed l) back ∙ ap (λ (r : Result Reply RespondError). left_of c.args.number r (filled handed ws)) error,
    )
