-- What is remembered of queries, while one action after another is done.
use Rattle.serf_explain.proofs.Names.{Bool, Bor, List, None, Option, Some, [], ap, cond, false, filter, inl, inr, not, refl, subst, sym, true, ℕ, ◌&&◌, ◌++◌, ◌||◌, ◌∙◌, ◌∷◌, ◌≡◌, and_parts, cases_Bool, eqb-true, filter-append, list_any-append, list_any, option_copied, option_map, is_some, nat_eq, get, packet_given, Act, Action, Answer, NewQuery, WorldState, message_given, Remembers, asked_after, ended_among, ended_so, ending, entered_after, pending_with, query_brought, query_fired, query_new, query_of, same_moment, same_query, stays_open, Moment, Firing, Ended, Memory, QueryKey}
use Rattle.serf_model.specs.declared.action.Act.TheVariants as acts
use Rattle.serf_model.specs.declared.action.Action.TheVariants as actions
use Rattle.serf_model.specs.declared.line.Answer.TheVariants as answers
use Rattle.serf_explain.specs.declared.memory.Ended.TheVariants as ends

pub is_some-copied : {X : Type 0} → (o : Option (Bor X)) → is_some o ≡ is_some (option_copied o)
is_some-copied None = refl
is_some-copied (Some x) = refl

same-moment : (x y : Moment) → same_moment x y ≡ true → x ≡ y
same-moment x y h =
    let both = and_parts (nat_eq x.agent y.agent) (nat_eq x.time y.time) h in
    let agents : x.agent ≡ y.agent = eqb-true x.agent y.agent both.0 in
    let times : x.time ≡ y.time = eqb-true x.time y.time both.1 in
    λ k. record { agent = agents k; time = times k }

-- ---- one query that was open

module _ (w : WorldState) (a : ℕ) (e : Ended) (k : Moment) where
  pub pending-stays : stays_open w a k ≡ true → filter (stays_open w a) (k ∷ []) ≡ k ∷ []
  pending-stays stays = rw stays refl

  pub pending-over : stays_open w a k ≡ false → filter (stays_open w a) (k ∷ []) ≡ []
  pending-over over = rw over refl

  pub ended-stays : (m : Moment) (old : Option Firing) → stays_open w a k ≡ true → ended_among w a e (k ∷ []) m old ≡ old
  ended-stays m old stays = rw stays refl

  ended-over : (m : Moment) (old : Option Firing) → stays_open w a k ≡ false → ended_among w a e (k ∷ []) m old ≡ cond (same_moment k m) (option_map (ended_so e) old) old
  ended-over m old over = rw over (elim (cases_Bool (same_moment k m)) [ inl same ↦ rw same refl | inr apart ↦ rw apart refl ])

  -- what is known of the query then says that it ended
  pub ended-set : (m : Moment) (f : Moment → Option Firing) (new : Option Firing) (was : Firing) → stays_open w a k ≡ false → f k ≡ Some was → new ≡ cond (same_moment k m) (Some (ended_so e was)) (f m) → new ≡ ended_among w a e (k ∷ []) m (f m)
  ended-set m f new was over found puts = puts ∙ both ∙ sym (ended-over m (f m) over)
    where
      both : cond (same_moment k m) (Some (ended_so e was)) (f m) ≡ cond (same_moment k m) (option_map (ended_so e) (f m)) (f m)
      both = elim (cases_Bool (same_moment k m)) [
        | inl same ↦ (let is : f m ≡ Some was = subst (λ (x : Moment). f x ≡ Some was) (same-moment k m same) found in rw same (sym (ap (λ (o : Option Firing). option_map (ended_so e) o) is)))
        | inr apart ↦ rw apart refl
      ]

  -- or nothing is known of the query
  pub ended-none : (m : Moment) (f : Moment → Option Firing) → stays_open w a k ≡ false → f k ≡ None → f m ≡ ended_among w a e (k ∷ []) m (f m)
  ended-none m f over none = both ∙ sym (ended-over m (f m) over)
    where
      both : f m ≡ cond (same_moment k m) (option_map (ended_so e) (f m)) (f m)
      both = elim (cases_Bool (same_moment k m)) [
        | inl same ↦ (let is : f m ≡ None = subst (λ (x : Moment). f x ≡ None) (same-moment k m same) none in rw same (is ∙ sym (ap (λ (o : Option Firing). option_map (ended_so e) o) is)))
        | inr apart ↦ rw apart refl
      ]

-- ---- one query after another

twice-ended : (e : Ended) (x y : Bool) (old : Option Firing) → cond y (option_map (ended_so e) (cond x (option_map (ended_so e) old) old)) (cond x (option_map (ended_so e) old) old) ≡ cond (x || y) (option_map (ended_so e) old) old
twice-ended e true true None = refl
twice-ended e true true (Some was) = refl
twice-ended e true false old = refl
twice-ended e false true old = refl
twice-ended e false false old = refl

pub ended-more : (w : WorldState) (a : ℕ) (e : Ended) (ks : List Moment) (k m : Moment) (old mid new : Option Firing) → mid ≡ ended_among w a e ks m old → new ≡ ended_among w a e (k ∷ []) m mid → new ≡ ended_among w a e (ks ++ k ∷ []) m old
ended-more w a e ks k m old mid new first second =
    let over : Moment → Bool = λ (x : Moment). not (stays_open w a x) && same_moment x m in
    let so : Option Firing → Option Firing = λ (o : Option Firing). option_map (ended_so e) o in
    second
    ∙ ap (λ (o : Option Firing). cond (list_any over (k ∷ [])) (so o) o) first
    ∙ twice-ended e (list_any over ks) (list_any over (k ∷ [])) old
    ∙ ap (λ (b : Bool). cond b (so old) old) (sym (list_any-append over ks (k ∷ [])))

pub pending-more : (w : WorldState) (a : ℕ) (ks : List Moment) (k : Moment) (mid new : List Moment) → mid ≡ filter (stays_open w a) ks → new ≡ mid ++ filter (stays_open w a) (k ∷ []) → new ≡ filter (stays_open w a) (ks ++ k ∷ [])
pending-more w a ks k mid new first second =
    second ∙ ap (λ (t : List Moment). t ++ filter (stays_open w a) (k ∷ [])) first ∙ sym (filter-append (stays_open w a) ks (k ∷ []))

-- ---- an action

not-fired : (a : ℕ) (q : NewQuery) (answer : Answer) → ((t : ℕ) → answer ≡ answers.Queried t → ⊥) → query_fired (actions.Of a (acts.Query q)) answer ≡ None
not-fired a q (answers.Queried t) other = absurd (other t refl)
not-fired a q _ other = refl

module _ (w : WorldState) (n : ℕ) (action : Action) (answer : Answer) (old new : Memory) where
  -- the action did nothing to queries
  pub remembers-none : query_fired action answer ≡ None → query_brought w.sent action answer ≡ None → ending n action ≡ None → Remembers w n action answer old old
  remembers-none fired brought ended = record {
    entered = λ q. rw (fired, brought) refl;
    fired_queries = λ m. rw (fired, ended) refl;
    pending = rw (fired, ended) refl;
  }

  -- a new query entered
  pub remembers-new : (key : QueryKey) → query_fired action answer ≡ None → query_brought w.sent action answer ≡ Some key → ending n action ≡ None
      → ((q : QueryKey) → get same_query new.queries q ≡ cond (same_query key q) (Some n) (get same_query old.queries q)) → new.fired_queries ≡ old.fired_queries → new.pending ≡ old.pending → Remembers w n action answer old new
  remembers-new key fired brought ended puts fired_queries pending = record {
    entered = λ q. rw (fired, brought) (puts q);
    fired_queries = λ m. rw (fired, ended) (ap (λ x. get same_moment x m) fired_queries);
    pending = rw (fired, ended) (ap (λ x. x.items) pending);
  }

  -- the action fired a query
  pub remembers-fired : (key : QueryKey) → query_fired action answer ≡ Some key → query_brought w.sent action answer ≡ None → ending n action ≡ None
      → ((q : QueryKey) → get same_query new.queries q ≡ entered_after n (Some key) q (get same_query old.queries q)) → ((m : Moment) → get same_moment new.fired_queries m ≡ asked_after n (Some key) m (get same_moment old.fired_queries m))
      → new.pending.items ≡ pending_with (Some key) old.pending.items → Remembers w n action answer old new
  remembers-fired key fired brought ended entered fired_queries pending = record {
    entered = λ q. rw (fired, brought) (entered q);
    fired_queries = λ m. rw (fired, ended) (fired_queries m);
    pending = rw (fired, ended) pending;
  }

  -- the action ended some queries
  pub remembers-ended : (a : ℕ) (e : Ended) → query_fired action answer ≡ None → query_brought w.sent action answer ≡ None → ending n action ≡ Some (a, e) → new.queries ≡ old.queries
      → ((m : Moment) → get same_moment new.fired_queries m ≡ ended_among w a e old.pending.items m (get same_moment old.fired_queries m)) → new.pending.items ≡ filter (stays_open w a) old.pending.items → Remembers w n action answer old new
  remembers-ended a e fired brought ended entered fired_queries pending = record {
    entered = λ q. rw (fired, brought) (ap (λ x. get same_query x q) entered);
    fired_queries = λ m. rw (fired, ended) (fired_queries m);
    pending = rw (fired, ended) pending;
  }

  -- each of these cases, by the kind of the action
  pub injected_is : (bytes : List ℕ) → action ≡ actions.Inject bytes → Remembers w n action answer old old
  injected_is bytes is = remembers-none (ap (λ (x : Action). query_fired x answer) is) (ap (λ (x : Action). query_brought w.sent x answer) is) (ap (λ (x : Action). ending n x) is)

  module _ (a : ℕ) (act : Act) (is : action ≡ actions.Of a act) where
    whole : (x : Act) → act ≡ x → action ≡ actions.Of a x
    whole x same = is ∙ ap (λ (y : Act). actions.Of a y) same

    pub closed_is : (now : ℕ) → act ≡ acts.Close now → new.queries ≡ old.queries → ((m : Moment) → get same_moment new.fired_queries m ≡ ended_among w a (ends.Closed n) old.pending.items m (get same_moment old.fired_queries m))
        → new.pending.items ≡ filter (stays_open w a) old.pending.items → Remembers w n action answer old new
    closed_is now same entered fired_queries pending =
        let all = whole (acts.Close now) same in
        remembers-ended a (ends.Closed n) (ap (λ (x : Action). query_fired x answer) all) (ap (λ (x : Action). query_brought w.sent x answer) all) (ap (λ (x : Action). ending n x) all) entered fired_queries pending

    pub lost_is : (tail : List ℕ) → act ≡ acts.Restart tail → new.queries ≡ old.queries → ((m : Moment) → get same_moment new.fired_queries m ≡ ended_among w a (ends.Lost n) old.pending.items m (get same_moment old.fired_queries m))
        → new.pending.items ≡ filter (stays_open w a) old.pending.items → Remembers w n action answer old new
    lost_is tail same entered fired_queries pending =
        let all = whole (acts.Restart tail) same in
        remembers-ended a (ends.Lost n) (ap (λ (x : Action). query_fired x answer) all) (ap (λ (x : Action). query_brought w.sent x answer) all) (ap (λ (x : Action). ending n x) all) entered fired_queries pending

    fires : (q : NewQuery) → act ≡ acts.Query q → query_fired action answer ≡ query_fired (actions.Of a (acts.Query q)) answer
    fires q same = ap (λ (x : Action). query_fired x answer) (whole (acts.Query q) same)

    pub fired_is : (q : NewQuery) (t : ℕ) → act ≡ acts.Query q → answer ≡ answers.Queried t → ((k : QueryKey) → get same_query new.queries k ≡ entered_after n (Some (query_of a t q.id)) k (get same_query old.queries k))
        → ((m : Moment) → get same_moment new.fired_queries m ≡ asked_after n (Some (query_of a t q.id)) m (get same_moment old.fired_queries m)) → new.pending.items ≡ pending_with (Some (query_of a t q.id)) old.pending.items → Remembers w n action answer old new
    fired_is q t same says entered fired_queries pending =
        let all = whole (acts.Query q) same in
        remembers-fired (query_of a t q.id) (fires q same ∙ ap (λ (x : Answer). query_fired (actions.Of a (acts.Query q)) x) says) (ap (λ (x : Action). query_brought w.sent x answer) all) (ap (λ (x : Action). ending n x) all) entered fired_queries pending

    pub nothing_fired : (q : NewQuery) → act ≡ acts.Query q → ((t : ℕ) → answer ≡ answers.Queried t → ⊥) → Remembers w n action answer old old
    nothing_fired q same other =
        let all = whole (acts.Query q) same in
        remembers-none (fires q same ∙ not-fired a q answer other) (ap (λ (x : Action). query_brought w.sent x answer) all) (ap (λ (x : Action). ending n x) all)

    brings : (packet now : ℕ) (o : Option QueryKey) → act ≡ acts.Deliver packet now → o ≡ query_new a answer (message_given (packet_given w.sent action)) → query_brought w.sent action answer ≡ o
    brings packet now o same found =
        let all = whole (acts.Deliver packet now) same in
        ap (λ (x : Action). query_brought w.sent x answer) all ∙ sym (found ∙ ap (λ (x : Action). query_new a answer (message_given (packet_given w.sent x))) all)

    pub brought_is : (packet now : ℕ) (key : QueryKey) → act ≡ acts.Deliver packet now → Some key ≡ query_new a answer (message_given (packet_given w.sent action))
        → ((q : QueryKey) → get same_query new.queries q ≡ cond (same_query key q) (Some n) (get same_query old.queries q)) → new.fired_queries ≡ old.fired_queries → new.pending ≡ old.pending → Remembers w n action answer old new
    brought_is packet now key same found puts fired_queries pending =
        let all = whole (acts.Deliver packet now) same in
        remembers-new key (ap (λ (x : Action). query_fired x answer) all) (brings packet now (Some key) same found) (ap (λ (x : Action). ending n x) all) puts fired_queries pending

    pub nothing_brought : (packet now : ℕ) → act ≡ acts.Deliver packet now → None ≡ query_new a answer (message_given (packet_given w.sent action)) → Remembers w n action answer old old
    nothing_brought packet now same found =
        let all = whole (acts.Deliver packet now) same in
        remembers-none (ap (λ (x : Action). query_fired x answer) all) (brings packet now None same found) (ap (λ (x : Action). ending n x) all)
