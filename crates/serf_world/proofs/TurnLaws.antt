-- If an agent's sink has a plan of failures, a call of the agent can end in only one way.
use Rattle.serf_world.proofs.Names.{Bool, Err, IsSome, List, MatchBool, None, Ok, Option, Result, Some, [], ap, arith, cond, false, get_or, length, map, nat_le, refl, set, subst, suc, sym, true, zero, ℕ, ◌++◌, ◌<◌, ◌∙◌, ◌∷◌, ◌≡◌, ◌≢◌, ◌≤◌, append-nil, length-map, map-set, All-from_recursion, All-set, recursion_from_All, get_or_from_slice_get, slice_get_within, AllByRecursion, All, slice_get, clock_line, Device, FailurePlan, kept_bytes, Failed, IsObservable, Kept, MayReplaceBy, MayWrite, SnapshotView, Writing, durable_left_by, last_line, will_store, will_write, ClockKind, AppendLineError, Call, Ends, MayEnd, AppendsLine, Replaces, ended, planned, will, DeliveredQuery, IdealAgent, IsWritable, respond_error, IsSound, Steps, MayAppendLine, text_with, will_append_line, AgentState, ConcreteState, view_of, EventOut, RespondError, Applied, Cluster, Done, IdealNode, apply, called, does_nothing, event_line, line_only, append_line_gives, append_line_refusal, numbers_from, on_agent, only, refused, responds, responds_as, with_handed, events_given, AreRepresentable, IsRepresentable, BringsToldBy, CanTellAct, given_by, Act, Answer, Line, Refusal, NoAgent, Shows, TakesTurn, answer_after, answer_gives, slot_after, slot_gives, IsViewed, NodeState, TakesStep, WorldState, node_of}
use Rattle.serf_model.specs.declared.line.Answer.TheVariants as answers

abbrev view : (m e q : ℕ) (stopped : Bool) (k : Option (List ℕ)) (p : Option FailurePlan) → SnapshotView
view m e q stopped k p = record { member_clock = m; event_clock = e; query_clock = q; stopped = stopped; durable = k; plan = p }

write-view : (m e q : ℕ) (b : Bool) (k : Option (List ℕ)) (p : Option FailurePlan) (line : List ℕ) (w : Writing) → IsSome p → MayWrite (view m e q b k p) line w → w ≡ will_write (view m e q b k p)
write-view m e q b k None line w some may = absurd (cc some)
write-view m e q b k (Some p) line Kept some may = sym (ap (λ f. cond f (Failed k) Kept) may)
write-view m e q b k (Some p) line (Failed durable) some may = ap Failed may.1.1 ∙ sym (ap (λ f. cond f (Failed k) Kept) may.1.0)

text-view : (m e q : ℕ) (b : Bool) (k : Option (List ℕ)) (p : Option FailurePlan) (text : List ℕ) (w : Writing) → IsSome p → MayReplaceBy text (view m e q b k p) w → w ≡ will_store text (view m e q b k p) p
text-view m e q b k None text w some may = absurd (cc some)
text-view m e q b k (Some p) text Kept some may = sym (ap (λ f. cond f (Failed (durable_left_by p text k)) Kept) may)
text-view m e q b k (Some p) text (Failed durable) some may = ap Failed may.1.1 ∙ sym (ap (λ f. cond f (Failed (durable_left_by p text k)) Kept) may.1.0)

append_line-will : (s : SnapshotView) (kind : ClockKind) (t : ℕ) (w : Writing) → IsObservable s → MayAppendLine kind t None s w → w ≡ will_append_line kind t None s
append_line-will s kind t w observable may = by (nat_le t (last_line kind s)) may
  where
    by : (b : Bool) → MatchBool b (w ≡ Kept) (MayWrite s (clock_line kind t) w) → w ≡ cond b Kept (will_write s)
    by true is = is
    by false may = write-view s.member_clock s.event_clock s.query_clock s.stopped s.durable s.plan (clock_line kind t) w observable.plan may

pub may-will : {R : Type 0} (i : IdealAgent) (call : Call R) (w : Writing) → IsObservable i.snapshot → MayEnd i call w → w ≡ will i call
may-will i (Ends step) w observable may = may
may-will i (AppendsLine kind t None step error) w observable may = append_line-will i.snapshot kind t w observable may
may-will i (AppendsLine kind t (Some line) step error) w observable may = write-view i.snapshot.member_clock i.snapshot.event_clock i.snapshot.query_clock i.snapshot.stopped i.snapshot.durable i.snapshot.plan (kept_bytes kind t line (last_line kind i.snapshot)) w observable.plan may
may-will i (Replaces lines step error) w observable may = text-view i.snapshot.member_clock i.snapshot.event_clock i.snapshot.query_clock i.snapshot.stopped i.snapshot.durable i.snapshot.plan (text_with lines i.snapshot) w observable.plan may

-- what a call answered, and what the agent stores afterwards
pub record Plans {R : Type 0} (i : IdealAgent) (call : Call R) (result : R) (new : ConcreteState) : Type 0 where
  pub answers : result ≡ (planned i call).answer
  pub state : new ≡ view_of (planned i call).agent

pub steps-planned : {R : Type 0} (i : IdealAgent) (call : Call R) (result : R) (old : Device) (new : AgentState) → IsObservable i.snapshot → Steps i call result old new → Plans i call result new.concrete
steps-planned {R} i call result old new observable steps =
    let same : steps.writing ≡ will i call = may-will i call steps.writing observable steps.allowed in
    record {
      answers = steps.answers ∙ ap (λ w. (ended i call w).answer) same;
      state = steps.state ∙ ap (λ w. view_of (ended i call w).agent) same;
    }

-- ---- what lines show

-- a line without a query
pub shows : (a : ℕ) (before after : List (List ℕ)) (old new : List (Option DeliveredQuery)) (answer : Answer) (packets : List (List ℕ)) (events : List EventOut) (line : Line) → after ≡ before ++ packets → new ≡ old
    → line ≡ record { answer = answer; sent = numbers_from (length before) packets; events = map (event_line a) events; handed = None }
    → Shows a before after old new (record { answer = answer; packets = packets; events = events; handed = None }) line
shows a before after old new answer packets events line goes same is = record {
  packets = goes;
  kept = same ∙ sym (append-nil old);
  answer = ap (λ (l : Line). l.answer) is;
  sent = ap (λ (l : Line). l.sent) is;
  events = ap (λ (l : Line). l.events) is;
  handed = ap (λ (l : Line). l.handed) is;
}

pub shows-only : (a : ℕ) (sent : List (List ℕ)) (old new : List (Option DeliveredQuery)) (answer : Answer) (line : Line) → new ≡ old → line ≡ line_only answer → Shows a sent sent old new (only answer) line
shows-only a sent old new answer line same is = shows a sent sent old new answer [] [] line (sym (append-nil sent)) same is

-- an agent made a call, and its line shows the result
pub does-call : {R : Type 0} (m : IdealNode) (call : Call R) (result : R) (old : Device) (new : AgentState) (gives : R → Done) (a : ℕ) (before after : List (List ℕ)) (handed : List (Option DeliveredQuery)) (line : Line) → IsRepresentable m.agent → Steps m.agent call result old new
    → Shows a before after m.handed handed (gives result) line → TakesTurn a before after (called m (planned m.agent call) gives) (record { concrete = new.concrete; handed = handed }) line
does-call m call result old new gives a before after handed line representable steps shows =
    let p = steps-planned m.agent call result old new representable.consistent.observable steps in
    record { state = p.state; shows = subst (λ r. Shows a before after m.handed handed (gives r) line) p.answers shows }

err-differs : {R E : Type 0} (r : Result R E) (f g : E) → r ≡ Err f → f ≢ g → r ≢ Err g
err-differs r f g is differs e = let both : Err f ≡ Err g = sym is ∙ e in let same : f ≡ g = cc both in differs same

ok-differs : {R E : Type 0} (r : Result R E) (x : R) (g : E) → r ≡ Ok x → r ≢ Err g
ok-differs r x g is e = let both : Ok x ≡ Err g = sym is ∙ e in absurd (cc both)

-- a call that succeeded
pub call-done : {R E : Type 0} (call : IdealAgent → Call (Result R E)) (gives : Result R E → Done) (x : R) (memory : E) (node given : NodeState) (result : Result R E) (old : Device) (new : AgentState) (a : ℕ) (before after : List (List ℕ)) (handed : List (Option DeliveredQuery)) (line : Line) → node ≡ given → result ≡ Ok x
    → ((i : IdealAgent) → IsSound i → node.concrete ≡ view_of i → result ≢ Err memory → Steps i (call i) result old new) → Shows a before after node.handed handed (gives (Ok x)) line
    → (m : IdealNode) → IsRepresentable m.agent → given ≡ node_of m → TakesTurn a before after (called m (planned m.agent (call m.agent)) gives) (record { concrete = new.concrete; handed = handed }) line
call-done {R} {E} call gives x memory node given result old new a before after handed line viewed is steps shows m representable same =
    let was = viewed ∙ same in
    does-call m (call m.agent) result old new gives a before after handed line representable (steps m.agent representable.consistent.sound (ap (λ (n : NodeState). n.concrete) was) (ok-differs result x memory is))
    (subst (λ (r : Result R E). Shows a before after m.handed handed (gives r) line) (sym is) (subst (λ (l : List (Option DeliveredQuery)). Shows a before after l handed (gives (Ok x)) line) (ap (λ (n : NodeState). n.handed) was) shows))

-- a call that was refused, but not because memory ran out
pub call-refused : {R E : Type 0} (call : IdealAgent → Call (Result R E)) (gives : Result R E → Done) (refusal : E → Refusal) (error memory : E) (told : Refusal) (node given : NodeState) (result : Result R E) (old : Device) (new : AgentState) (a : ℕ) (sent : List (List ℕ)) (line : Line) → ((e : E) → gives (Err e) ≡ refused (refusal e))
    → node ≡ given → result ≡ Err error → ((i : IdealAgent) → IsSound i → node.concrete ≡ view_of i → result ≢ Err memory → Steps i (call i) result old new) → (told ≡ refusal error) × (error ≢ memory) → line ≡ line_only (answers.Refused told)
    → (m : IdealNode) → IsRepresentable m.agent → given ≡ node_of m → TakesTurn a sent sent (called m (planned m.agent (call m.agent)) gives) (record { concrete = new.concrete; handed = node.handed }) line
call-refused {R} {E} call gives refusal error memory told node given result old new a sent line by viewed is steps says shows m representable same =
    let was = viewed ∙ same in
    let only_refused : Shows a sent sent m.handed node.handed (refused (refusal error)) line = shows-only a sent m.handed node.handed (answers.Refused (refusal error)) line (ap (λ (n : NodeState). n.handed) was) (shows ∙ ap (λ r. line_only (answers.Refused r)) says.0) in
    does-call m (call m.agent) result old new gives a sent sent node.handed line representable (steps m.agent representable.consistent.sound (ap (λ (n : NodeState). n.concrete) was) (err-differs result error memory is says.1))
    (subst (λ (r : Result R E). Shows a sent sent m.handed node.handed (gives r) line) (sym is) (subst (λ (d : Done). Shows a sent sent m.handed node.handed d line) (sym (by error)) only_refused))

-- an action that is refused before its agent does anything
pub refuses : (m : IdealNode) (node : NodeState) (refusal : Refusal) (a : ℕ) (sent : List (List ℕ)) (line : Line) → node ≡ node_of m → line ≡ line_only (answers.Refused refusal) → TakesTurn a sent sent (does_nothing m (refused refusal)) node line
refuses m node refusal a sent line is shows =
    record { state = ap (λ (n : NodeState). n.concrete) is; shows = shows-only a sent m.handed node.handed (answers.Refused refusal) line (ap (λ (n : NodeState). n.handed) is) shows }

-- a line of the member clock, or a compaction
shows-append_line : (a : ℕ) (sent : List (List ℕ)) (old new : List (Option DeliveredQuery)) (answer : Answer) (noted : Result (Unit {0}) AppendLineError) (line : Line) → new ≡ old → line ≡ line_only (append_line_gives answer noted).answer → Shows a sent sent old new (append_line_gives answer noted) line
shows-append_line a sent old new answer (Ok done) line same is = shows-only a sent old new answer line same is
shows-append_line a sent old new answer (Err error) line same is = shows-only a sent old new (answers.Refused (append_line_refusal error)) line same is

pub noted : (call : IdealAgent → Call (Result (Unit {0}) AppendLineError)) (answer : Answer) (memory : AppendLineError) (node given : NodeState) (result : Result (Unit {0}) AppendLineError) (old : Device) (new : AgentState) (line : Line) → node ≡ given
    → ((i : IdealAgent) → IsSound i → node.concrete ≡ view_of i → result ≢ Err memory → Steps i (call i) result old new) → (line ≡ line_only (append_line_gives answer result).answer) × (result ≢ Err memory)
    → (m : IdealNode) (number : ℕ) (sent : List (List ℕ)) → IsRepresentable m.agent → given ≡ node_of m → TakesTurn number sent sent (called m (planned m.agent (call m.agent)) (append_line_gives answer)) (record { concrete = new.concrete; handed = node.handed }) line
noted call answer memory node given result old new line viewed steps says m number sent representable same =
    let was = viewed ∙ same in
    does-call m (call m.agent) result old new (append_line_gives answer) number sent sent node.handed line representable (steps m.agent representable.consistent.sound (ap (λ (n : NodeState). n.concrete) was) says.1)
    (shows-append_line number sent m.handed node.handed answer result line (ap (λ (n : NodeState). n.handed) was) says.0)

-- ---- answering a query

get-there : {X : Type 0} (xs : List X) (k : ℕ) (x : X) → k < length xs → x ≡ get_or xs k x → slice_get xs k ≡ Some x
get-there [] k x h is = absurd (omega arith)
get-there (y ∷ ys) zero x h is = ap Some (sym is)
get-there (y ∷ ys) (suc k) x h is = get-there ys k x (omega arith) is

set-same : {X : Type 0} (xs : List X) (k : ℕ) (x : X) → slice_get xs k ≡ Some x → set xs k x ≡ xs
set-same [] k x is = refl
set-same (y ∷ ys) zero x is = let same : y ≡ x = cc is in ap (λ z. z ∷ ys) (sym same)
set-same (y ∷ ys) (suc k) x is = ap (λ l. y ∷ l) (set-same ys k x is)

responds-slot : (m : IdealNode) (h now : ℕ) (payload : List ℕ) (slot : Option DeliveredQuery) (a : ℕ) (before after : List (List ℕ)) (line : Line) → slice_get m.handed h ≡ Some slot
    → ((handed : List (Option DeliveredQuery)) → Shows a before after handed handed (slot_gives slot now payload) line)
    → TakesTurn a before after (responds m h (Some slot) now payload) (record { concrete = view_of m.agent; handed = set m.handed h (slot_after slot now payload) }) line
responds-slot m h now payload None a before after line at shows =
    record { state = refl; shows = subst (λ (l : List (Option DeliveredQuery)). Shows a before after m.handed l (slot_gives None now payload) line) (sym (set-same m.handed h None at)) (shows m.handed) }
responds-slot m h now payload (Some q) a before after line at shows = by (respond_error q now payload) shows
  where
    by : (r : Option RespondError) → ((handed : List (Option DeliveredQuery)) → Shows a before after handed handed (answer_gives r q payload) line)
        → TakesTurn a before after (responds_as r m h q payload) (record { concrete = view_of m.agent; handed = set m.handed h (answer_after r q) }) line
    by (Some error) shown = record { state = refl; shows = subst (λ (l : List (Option DeliveredQuery)). Shows a before after m.handed l (answer_gives (Some error) q payload) line) (sym (set-same m.handed h (Some q) at)) (shown m.handed) }
    by None shown = record { state = refl; shows = shown (set m.handed h None) }

pub responds-there : (m : IdealNode) (h now : ℕ) (payload : List ℕ) (slot new : Option DeliveredQuery) (old : NodeState) (a : ℕ) (before after : List (List ℕ)) (line : Line) → old ≡ node_of m → h < length old.handed → slot ≡ get_or old.handed h slot
    → ((handed : List (Option DeliveredQuery)) → Shows a before after handed handed (slot_gives slot now payload) line) → new ≡ slot_after slot now payload
    → TakesTurn a before after (responds m h (slice_get m.handed h) now payload) (record { concrete = old.concrete; handed = set old.handed h new }) line
responds-there m h now payload slot new old a before after line same within at shows is =
    let found : slice_get m.handed h ≡ Some slot = ap (λ (n : NodeState). slice_get n.handed h) (sym same) ∙ get-there old.handed h slot within at in
    let here = responds-slot m h now payload slot a before after line found shows in
    subst (λ (o : Option (Option DeliveredQuery)). TakesTurn a before after (responds m h o now payload) (record { concrete = old.concrete; handed = set old.handed h new }) line) (sym found)
    (subst (λ (n : NodeState). TakesTurn a before after (responds m h (Some slot) now payload) n line) (λ k. record { concrete = (sym same k).concrete; handed = set ((sym same k).handed) h (sym is k) }) here)

-- there is no element after the end of a list
pub past-none : {X : Type 0} (xs : List X) (a : ℕ) → length xs ≤ a → slice_get xs a ≡ None
past-none [] a h = refl
past-none (x ∷ xs) zero h = absurd (omega arith)
past-none (x ∷ xs) (suc a) h = past-none xs a (omega arith)

-- ---- one agent's turn is a step of the cluster

none-past : {X : Type 0} (xs : List X) (a : ℕ) → slice_get xs a ≡ None → length xs ≤ a
none-past [] a e = omega arith
none-past (x ∷ xs) zero e = absurd (cc e)
none-past (x ∷ xs) (suc a) e = let h = none-past xs a e in omega arith

-- an element of a mapped list is the image of the element at the same place of the original list
same-at : {X Y : Type 0} (f : Y → X) (xs : List X) (ys : List Y) (a : ℕ) (x : X) (y : Y) → map f ys ≡ xs → a < length xs → x ≡ get_or xs a x → slice_get ys a ≡ Some y → x ≡ f y
same-at f xs [] a x y e within at found = absurd (cc found)
same-at f [] (z ∷ ys) a x y e within at found = absurd (omega arith)
same-at f (w ∷ xs) (z ∷ ys) zero x y e within at found =
    let head : f z ≡ w = cc e in
    let here : z ≡ y = cc found in
    at ∙ sym head ∙ ap f here
same-at f (w ∷ xs) (z ∷ ys) (suc a) x y e within at found =
    let tail : map f ys ≡ xs = cc e in
    same-at f xs ys a x y tail (omega arith) at found

-- if P holds of each element of a list, it holds of the element at a place, and of all elements after one was replaced
-- by another with P
all-at : {X : Type 0} (P : X → Type 0) (xs : List X) (a : ℕ) (x : X) → AllByRecursion P xs → slice_get xs a ≡ Some x → P x
all-at P xs a x all found = subst P (get_or_from_slice_get xs a x x found) (All-from_recursion P xs all a x (slice_get_within xs a x found))

all-put : {X : Type 0} (P : X → Type 0) (xs : List X) (a : ℕ) (x : X) → AllByRecursion P xs → P x → AllByRecursion P (set xs a x)
all-put P xs a x all new = recursion_from_All P (set xs a x) (All-set P xs a x new (All-from_recursion P xs all))

-- the law of `representable_agents`: what an agent does leaves it representable
abbrev pub KeepsRepresentable : Type 0
KeepsRepresentable = (m : IdealNode) (sent : List (List ℕ)) (act : Act) → CanTellAct m.agent.config act (given_by sent act) → IsRepresentable m.agent → IsRepresentable (apply m sent act).node.agent

-- what an act fires can be written in lines, and so can the events in the packet that it passes to its agent, if these
-- packets were sent
abbrev pub IsWritableAct : List (List ℕ) → Act → Type 0
IsWritableAct sent act = BringsToldBy act × All (λ e. IsWritable e.key) (events_given (given_by sent act))

-- what has to be proved of a world after the turn of the agent that was found
abbrev pub Owes : Cluster → ℕ → Act → Option IdealNode → WorldState → Line → Type 0
Owes c a act r w line = TakesStep (on_agent c a act r) w line

pub owes-turn : KeepsRepresentable → (c : Cluster) (w : WorldState) (more : List (List ℕ)) (a : ℕ) (act : Act) (old new : NodeState) (line : Line) → IsViewed c w → AreRepresentable c → IsWritableAct w.sent act → a < length w.nodes → old ≡ get_or w.nodes a old
    → ((m : IdealNode) → IsRepresentable m.agent → old ≡ node_of m → TakesTurn a w.sent more (apply m w.sent act) new line)
    → Owes c a act (slice_get c.nodes a) (record { nodes = set w.nodes a new; sent = more; has_failed = w.has_failed }) line
owes-turn keeps c w more a act old new line v representable told within at does = by (slice_get c.nodes a) refl
  where
    by : (r : Option IdealNode) → slice_get c.nodes a ≡ r → Owes c a act r (record { nodes = set w.nodes a new; sent = more; has_failed = w.has_failed }) line
    by None none = absurd (let past = none-past c.nodes a none in let n = ap length v.nodes in let l = length-map c.nodes node_of in omega arith)
    by (Some m) found =
        let well : IsRepresentable m.agent = all-at (λ m. IsRepresentable m.agent) c.nodes a m representable found in
        let same : old ≡ node_of m = same-at node_of w.nodes c.nodes a old m v.nodes within at found in
        let did : TakesTurn a c.sent more (apply m c.sent act) new line = subst (λ (s : List (List ℕ)). TakesTurn a s more (apply m s act) new line) (sym v.sent) (does m well same) in
        let o : Applied = apply m c.sent act in
        let node : node_of (with_handed o.done.handed o.node) ≡ new = λ k. record { concrete = sym did.state k; handed = sym did.shows.kept k } in
        record {
          line_is = λ k. record { answer = did.shows.answer k; sent = did.shows.sent k; events = did.shows.events k; handed = did.shows.handed k };
          view = record { nodes = map-set node_of c.nodes a (with_handed o.done.handed o.node) ∙ ap (λ l. set l a (node_of (with_handed o.done.handed o.node))) v.nodes ∙ ap (λ s. set w.nodes a s) node; sent = sym did.shows.packets };
          representable = all-put (λ m. IsRepresentable m.agent) c.nodes a (with_handed o.done.handed o.node) representable (keeps m c.sent act (λ keeping. subst (λ (s : List (List ℕ)). IsWritableAct s act) (sym v.sent) told) well);
        }

pub owes-none : (c : Cluster) (w : WorldState) (a : ℕ) (act : Act) (line : Line) → IsViewed c w → AreRepresentable c → length w.nodes ≤ a → line ≡ line_only (answers.Refused NoAgent) → Owes c a act (slice_get c.nodes a) w line
owes-none c w a act line v representable past is =
    let none : slice_get c.nodes a ≡ None = (let n = ap length v.nodes in let l = length-map c.nodes node_of in past-none c.nodes a (omega arith)) in
    subst (λ (r : Option IdealNode). Owes c a act r w line) (sym none) (record { line_is = is; view = v; representable = representable })

pub map-map : {X Y Z : Type 0} (f : Y → Z) (g : X → Y) (xs : List X) → map f (map g xs) ≡ map (λ x. f (g x)) xs
map-map f g [] = refl
map-map f g (x ∷ xs) = ap (λ l. f (g x) ∷ l) (map-map f g xs)
