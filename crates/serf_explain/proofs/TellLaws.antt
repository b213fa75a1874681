-- The text of a run's turns with their reasons, while one action after another is done.
use Rattle.serf_explain.proofs.Names.{Bool, Err, List, None, Ok, Option, Result, Some, [], ap, append_assoc, arith, false, length, length-append, refl, subst, suc, sym, true, ℕ, ◌++◌, ◌+◌, ◌∙◌, ◌∷◌, ◌≡◌, length-map, map-append, fold-append, flat_map, fold, option_map, if◌then◌else◌, slice_get, EventBody, TimedEntry, Config, Reason, Seen, Cluster, Run, after, run_of, start, step, keeps, Turn, actor_of, Action, Line, IsViewed, TakesStep, WorldState, action_text, AddsSuch, because_line, AreMerged, OfMerge, TellsMerge, TellsMerged, known_of, slot_entries_from, heard, AddsTurn, AreReasoned, Explained, HasTold, IsReasoned, IsWritable, TellsAll, TellsRun, cluster_after, clusters_before, clusters_from, clusters_to, lines_text, lines_written, shows, turn_text, turns_text, IsKnown, KnowsSeen, Record, record_of, records_from, records_in, HoldMarks, IsEventLeft, events_min, first_words, is_left, numbers_in, is_shown, IsSeen, OfLeftEvent, OfSeen, event_delivered, event_given, name_in, event_words, History, AllMarks, Range, text_of, Explains, Reasoned, ReportsInput}
use Rattle.std.specs.Prelude.{OnOk, codes, map}
use Rattle.std.proofs.lemmas.List.{append-nil}
use Rattle.serf_model.specs.declared.action.Act.TheVariants as acts
use Rattle.serf_model.specs.declared.action.Action.TheVariants as actions
use Rattle.serf_model.specs.declared.line.Answer.TheVariants as answers
use Rattle.serf_explain.proofs.LeftLaws.{of-left}
use Rattle.serf_explain.proofs.KnownLaws.{still-sent, turn-action}
use Rattle.serf_explain.proofs.RecordLaws.{lines-push, of-seen}
use Rattle.serf_explain.proofs.CarriedLaws.{some-merged, told-merged, whole_of}

turns-push : (range : Range) (sent : List (List ℕ)) (n : ℕ) (es : List Explained) (e : Explained)
    → turns_text range sent n (es ++ e ∷ []) ≡ turns_text range sent n es ++ turn_text range sent (n + length es) e.turn.action e.turn.line e.reasons
turns-push range sent n [] e =
    let none : n ≡ n + 0 = omega arith in
    append-nil (turn_text range sent n e.turn.action e.turn.line e.reasons) ∙ ap (λ m. turn_text range sent m e.turn.action e.turn.line e.reasons) none
turns-push range sent n (x ∷ xs) e =
    let later : n + 1 + length xs ≡ n + length (x ∷ xs) = omega arith in
    ap (λ t. turn_text range sent n x.turn.action x.turn.line x.reasons ++ t)
    (turns-push range sent (n + 1) xs e ∙ ap (λ m. turns_text range sent (n + 1) xs ++ turn_text range sent m e.turn.action e.turn.line e.reasons) later)
    ∙ sym (append_assoc (turn_text range sent n x.turn.action x.turn.line x.reasons) (turns_text range sent (n + 1) xs) (turn_text range sent (n + length (x ∷ xs)) e.turn.action e.turn.line e.reasons))

-- the reasons of an action are those of the state that it merges
of-merge : (lines : List Line) (before : List Cluster) (c : Cluster) (action : Action) (raised : Option ℕ) (carried reasons : List (List ℕ)) → TellsMerge lines before c action raised carried → TellsMerged raised carried reasons → OfMerge AreMerged lines before c action reasons
of-merge lines before c (actions.Of agent (acts.Merge packet join)) raised carried reasons h tells = λ m bytes p at sent spells. tells (known_of agent lines before m.agent) (slot_entries_from 0 p.slots) m.agent (heard p join m.agent) (h m bytes p at sent spells)
of-merge lines before c _ raised carried reasons h tells = tt

-- an event that was delivered stays the same when more packets are sent
still-delivered : (sent more : List (List ℕ)) (action : Action) (a : ℕ) (e : TimedEntry EventBody) → event_delivered sent action ≡ Some (a, e) → event_delivered (sent ++ more) action ≡ Some (a, e)
still-delivered sent more (actions.Of agent (acts.Deliver packet now)) a e h = by (slice_get sent packet) refl h
  where
    pair : TimedEntry EventBody → ℕ × TimedEntry EventBody
    pair e = (agent, e)

    by : (o : Option (List ℕ)) → slice_get sent packet ≡ o → option_map pair (event_given o) ≡ Some (a, e) → option_map pair (event_given (slice_get (sent ++ more) packet)) ≡ Some (a, e)
    by None is k = absurd (cc (k))
    by (Some bytes) is k = ap (λ (o : Option (List ℕ)). option_map pair (event_given o)) (still-sent sent more packet bytes is) ∙ k
still-delivered sent more _ a e h = h

-- one more turn, whose reasons say what they have to
reasoned-push : (configs : List Config) (range : Range) (done es : List Explained) (e : Explained) → AreReasoned configs range done es → IsReasoned configs range (done ++ es) e → AreReasoned configs range done (es ++ e ∷ [])
reasoned-push configs range done [] e h k = (subst (λ (ds : List Explained). IsReasoned configs range ds e) (append-nil done) k, tt)
reasoned-push configs range done (x ∷ xs) e h k =
    (h.0, reasoned-push configs range (done ++ x ∷ []) xs e h.1 (subst (λ (ds : List Explained). IsReasoned configs range ds e) (sym (append_assoc done (x ∷ []) xs)) k))

lines-of : (es : List Explained) → map (λ (t : Turn). t.line) (map (λ (e : Explained). e.turn) es) ≡ lines_written es
lines-of [] = refl
lines-of (e ∷ es) = ap (λ (ls : List Line). e.turn.line ∷ ls) (lines-of es)

-- one more turn
pub told-after : (configs : List Config) (range : Range) (r : Run) (clusters : List Cluster) (action : Action) (new : WorldState) (line : Line) (raised : Option ℕ) (carried : List (List ℕ)) (past : History) (recorded : List Record) (text added : List ℕ) (n : ℕ)
    → ((step r.cluster action).cluster.sent ≡ r.cluster.sent ++ (step r.cluster action).turn.packets)
    → ((more : List (List ℕ)) → action_text ((step r.cluster action).cluster.sent ++ more) n (step r.cluster action).turn.line ≡ action_text (step r.cluster action).cluster.sent n (step r.cluster action).turn.line)
    → IsWritable configs range r clusters (records_in past.deliveries.outs.items) text → HoldMarks clusters r.cluster past.marks → n ≡ length r.turns + 1 → TellsMerge (map (λ (t : Turn). t.line) r.turns) (clusters ++ r.cluster ∷ []) r.cluster action raised carried → TakesStep (step r.cluster action) new line
    → KnowsSeen configs (records_in past.deliveries.outs.items) new.sent action line
    → AddsTurn (TellsAll (is_shown range n (actor_of action)) raised carried past n new action line) (is_shown range n (actor_of action)) new.sent n line text added
    → recorded ≡ records_in past.deliveries.outs.items ++ map (record_of n) line.events
    → IsWritable configs range (after r action) (clusters ++ r.cluster ∷ []) recorded added
told-after configs range r clusters action new line raised carried past recorded text added n sends stays h hold count told takes known adds grows =
    let turn : Turn = (step r.cluster action).turn in
    let records : List Record = records_in past.deliveries.outs.items in
    let sent : List (List ℕ) = (step r.cluster action).cluster.sent in
    let one : Explained = record { before = r.cluster; turn = turn; reasons = adds.reasons } in
    let many : length h.explained ≡ length r.turns = sym (length-map h.explained (λ (e : Explained). e.turn)) ∙ ap (λ (ts : List Turn). length ts) h.whole.turns_are in
    let acts : turn.action ≡ action = turn-action r.cluster action in
    let says : line.answer ≡ turn.line.answer = ap (λ (l : Line). l.answer) takes.line_is in
    let lines : List Line = map (λ (t : Turn). t.line) r.turns in
    let before : lines_written h.explained ≡ lines = sym (lines-of h.explained) ∙ ap (λ (ts : List Turn). map (λ (t : Turn). t.line) ts) h.whole.turns_are in
    let number : n ≡ 1 + length lines = omega (arith, length-map r.turns (λ (t : Turn). t.line), count) in
    let place : 1 + length h.explained ≡ n = omega (arith, many, count) in
    let following : length h.explained + 1 ≡ n = omega (arith, place) in
    let earlier : n ≡ length clusters + 1 = omega (arith, place, sym (length-map h.explained (λ (e : Explained). e.before)) ∙ ap (λ (cs : List Cluster). length cs) h.whole.clusters_are) in
    let viewed : IsViewed (cluster_after one) new = subst (λ (b : Action). IsViewed (step r.cluster b).cluster new) (sym acts) takes.view in
    let shown : shows range h.explained one ≡ true → is_shown range n (actor_of action) ≡ true =
    λ is. ap (λ m. is_shown range m (actor_of action)) (sym following) ∙ ap (λ (b : Action). is_shown range (length h.explained + 1) (actor_of b)) (sym acts) ∙ is in
    let delivered : (a : ℕ) (e : TimedEntry EventBody) → event_delivered r.cluster.sent turn.action ≡ Some (a, e) → event_delivered new.sent action ≡ Some (a, e) =
    λ a e is. ap (λ s. event_delivered s action) (sym takes.view.sent ∙ sends) ∙ still-delivered r.cluster.sent turn.packets action a e (ap (λ (b : Action). event_delivered r.cluster.sent b) (sym acts) ∙ is) in
    let clusters-are : clusters_to h.explained one ≡ clusters ++ r.cluster ∷ [] = ap (λ (cs : List Cluster). cs ++ r.cluster ∷ []) h.whole.clusters_are in
    let merged : turn.line.answer ≡ answers.Merged → OfMerge AreMerged (lines_written h.explained) (clusters_to h.explained one) r.cluster turn.action adds.reasons =
    λ is. subst (λ (ls : List Line). OfMerge AreMerged ls (clusters_to h.explained one) r.cluster turn.action adds.reasons) (sym before) (subst (λ (cs : List Cluster). OfMerge AreMerged lines cs r.cluster turn.action adds.reasons) (sym clusters-are) (subst (λ (a : Action). OfMerge AreMerged lines (clusters ++ r.cluster ∷ []) r.cluster a adds.reasons) (sym acts)
    (of-merge lines (clusters ++ r.cluster ∷ []) r.cluster action raised carried adds.reasons told (adds.such.merged (says ∙ is))))) in
    let seen : shows range h.explained one ≡ true → turn.line.answer ≡ answers.Ignored Seen → OfSeen configs (lines_written h.explained) r.cluster.sent (cluster_after one) turn.action adds.reasons =
    λ some is a e to.
    subst (λ (ls : List Line). (reason : List ℕ) × (adds.reasons ≡ reason ∷ []) × IsSeen ls (keeps (slice_get configs a)) (name_in (cluster_after one) a) a e.time e.key reason) (sym before)
    (of-seen configs lines past n (cluster_after one) new action adds.reasons viewed h.records_are (subst (λ (ns : List Record). IsKnown configs ns new.sent action) h.records_are (known (says ∙ is)))
    (adds.such.ignored Seen (shown some) (says ∙ is)) a e (delivered a e to)) in
    let left : (k : Reason) → shows range h.explained one ≡ true → turn.line.answer ≡ answers.Ignored k → is_left k ≡ true → OfLeftEvent k (clusters_to h.explained one) r.cluster.sent (cluster_after one) turn.action adds.reasons =
    λ k is-shown is some a e m to at.
    subst (λ (cs : List Cluster). (detail : List ℕ) × (adds.reasons ≡ (event_words e.time e.key ++ codes ": " ++ first_words k ++ detail) ∷ []) × IsEventLeft m.agent (numbers_in events_min a cs) e.time e.key k detail) (sym clusters-are)
    (of-left k past n clusters r.cluster (cluster_after one) new action adds.reasons hold earlier viewed some (adds.such.ignored k (shown is-shown) (says ∙ is)) a e m (delivered a e to) at) in
    record {
      records_are = grows
          ∙ ap (λ (ns : List Record). ns ++ map (record_of n) line.events) h.records_are
          ∙ ap (λ m. records_from 1 lines ++ map (record_of m) line.events) number
          ∙ sym (lines-push 1 lines line)
          ∙ ap (λ (l : Line). records_from 1 (lines ++ l ∷ [])) takes.line_is
          ∙ ap (λ (ls : List Line). records_from 1 ls) (sym (map-append (λ (t : Turn). t.line) r.turns (turn ∷ [])));
      explained = h.explained ++ one ∷ [];
      whole = record {
        turns_are = map-append (λ (e : Explained). e.turn) h.explained (one ∷ []) ∙ ap (λ ts. ts ++ turn ∷ []) h.whole.turns_are;
        clusters_are = map-append (λ (e : Explained). e.before) h.explained (one ∷ []) ∙ ap (λ cs. cs ++ r.cluster ∷ []) h.whole.clusters_are;
        reasons = reasoned-push configs range [] h.explained one h.whole.reasons (record { some = adds.some; merged = merged; seen = seen; left = left });
      };
      told = λ more.
          turns-push range (sent ++ more) 1 h.explained one
          ∙ ap (λ s. turns_text range s 1 h.explained ++ turn_text range (sent ++ more) (1 + length h.explained) turn.action turn.line adds.reasons)
          (ap (λ s. s ++ more) sends ∙ append_assoc r.cluster.sent turn.packets more)
          ∙ ap (λ t. t ++ turn_text range (sent ++ more) (1 + length h.explained) turn.action turn.line adds.reasons) (h.told (turn.packets ++ more))
          ∙ ap (λ t. text ++ t)
          (ap (λ m. turn_text range (sent ++ more) m turn.action turn.line adds.reasons) place
          ∙ ap (λ t. if is_shown range n (actor_of turn.action) then t ++ flat_map (because_line n) adds.reasons else []) (stays more)
          ∙ ap (λ a. turn_text range sent n a turn.line adds.reasons) acts
          ∙ ap (λ s. turn_text range s n action turn.line adds.reasons) takes.view.sent
          ∙ ap (λ l. turn_text range new.sent n action l adds.reasons) (sym takes.line_is))
          ∙ sym adds.added;
    }

-- the lines of an action, followed by those of its reasons
pub lines-added : (P : List (List ℕ) → Type 0) (sent : List (List ℕ)) (n : ℕ) (line : Line) (a b d : List ℕ) → b ≡ a ++ action_text sent n line → AddsSuch P n b d → AddsTurn P true sent n line a d
lines-added P sent n line a b d is h = record {
  reasons = h.reasons;
  some = h.some;
  such = h.such;
  added = h.added ∙ ap (λ t. t ++ flat_map (because_line n) h.reasons) is ∙ append_assoc a (action_text sent n line) (flat_map (because_line n) h.reasons);
}

-- an action that isn't shown
pub nothing-added : (raised : Option ℕ) (carried : List (List ℕ)) (past : History) (w : WorldState) (action : Action) (n : ℕ) (line : Line) (a : List ℕ) → AddsTurn (TellsAll false raised carried past n w action line) false w.sent n line a a
nothing-added raised carried past w action n line a = record {
  reasons = whole_of raised carried;
  some = some-merged raised carried;
  such = record { merged = λ answers. told-merged raised carried; ignored = λ r shown. absurd (cc (shown)) };
  added = sym (append-nil a);
}

-- a run whose actions are all written
pub told-whole : (range : Range) (configs : List Config) (done : List Action) (records : List Record) (text : List ℕ) → HasTold range configs done records text → TellsRun range configs done text
told-whole range configs done records text t = record {
  explained = t.explained;
  whole = t.whole;
  text_is = sym (t.told []) ∙ ap (λ s. turns_text range s 1 t.explained) (append-nil (run_of configs done).cluster.sent);
}

-- what a teller of reasons wrote about the schedule in an input
pub explains-input : (range : Range) (input text : List ℕ) (count : ℕ) → ReportsInput (Reasoned range) input text count → Explains range input text count
explains-input range input text count r = record {
  schedule = r.schedule;
  reads = r.reads;
  replayed = ap text_of r.reads;
  tells = told-whole range r.schedule.configs r.schedule.actions (records_in r.teller.history.deliveries.outs.items) text r.tells.1;
  counted = r.counted;
}

-- one more action of a run
pub run-push : (configs : List Config) (done : List Action) (action : Action) → run_of configs (done ++ action ∷ []) ≡ after (run_of configs done) action
run-push configs done action = fold-append after (start configs) done (action ∷ [])

clusters-from : (r : Run) (done : List Action) (action : Action) → clusters_from r.cluster (done ++ action ∷ []) ≡ clusters_from r.cluster done ++ (fold after r done).cluster ∷ []
clusters-from r [] action = refl
clusters-from r (x ∷ xs) action = ap (λ (cs : List Cluster). r.cluster ∷ cs) (clusters-from (after r x) xs action)

run-length : (r : Run) (done : List Action) → length (fold after r done).turns ≡ length r.turns + length done
run-length r [] = omega arith
run-length r (x ∷ xs) = run-length (after r x) xs ∙ (let one = length-append r.turns ((step r.cluster x).turn ∷ []) in let sum : length (after r x).turns + length xs ≡ length r.turns + length (x ∷ xs) = omega (arith, one) in sum)

pub told-next : (range : Range) (configs : List Config) (done : List Action) (action : Action) (past : List Record) (text : List ℕ)
    → IsWritable configs range (after (run_of configs done) action) (clusters_before configs done ++ (run_of configs done).cluster ∷ []) past text → HasTold range configs (done ++ action ∷ []) past text
told-next range configs done action past text h =
    subst (λ (r : Run). IsWritable configs range r (clusters_before configs (done ++ action ∷ [])) past text) (sym (run-push configs done action))
    (subst (λ (cs : List Cluster). IsWritable configs range (after (run_of configs done) action) cs past text) (sym (clusters-from (start configs) done action)) h)

pub hold-next : (configs : List Config) (done : List Action) (action : Action) (marks : AllMarks) → HoldMarks (clusters_before configs done ++ (run_of configs done).cluster ∷ []) (step (run_of configs done).cluster action).cluster marks
    → HoldMarks (clusters_before configs (done ++ action ∷ [])) (run_of configs (done ++ action ∷ [])).cluster marks
hold-next configs done action marks h =
    subst (λ (r : Run). HoldMarks (clusters_before configs (done ++ action ∷ [])) r.cluster marks) (sym (run-push configs done action))
    (subst (λ (cs : List Cluster). HoldMarks cs (step (run_of configs done).cluster action).cluster marks) (sym (clusters-from (start configs) done action)) h)

lengths-from : (c : Cluster) (done : List Action) → length (clusters_from c done) ≡ length done
lengths-from c [] = refl
lengths-from c (x ∷ xs) = ap suc (lengths-from (step c x).cluster xs)

pub clusters-length : (configs : List Config) (done : List Action) → length (clusters_before configs done) ≡ length done
clusters-length configs done = lengths-from (start configs).cluster done

pub lines-length : (configs : List Config) (done : List Action) → length (map (λ (t : Turn). t.line) (run_of configs done).turns) ≡ length done
lines-length configs done =
    let turns : length (run_of configs done).turns ≡ length done = omega (arith, run-length (start configs) done) in
    length-map (run_of configs done).turns (λ (t : Turn). t.line) ∙ turns

-- two things that hold of a call that succeeded
pub on-ok-both : {R E : Type 0} {P Q S : Type 0} (r : Result R E) → (P → Q → S) → OnOk r P → OnOk r Q → OnOk r S
on-ok-both (Ok x) f p q = f p q
on-ok-both (Err e) f p q = tt

-- the number of the next action
pub next-number : (configs : List Config) (done : List Action) (n : ℕ) → n ≡ length done + 1 → n ≡ length (run_of configs done).turns + 1
next-number configs done n is = omega (arith, is, run-length (start configs) done)

-- a run that has done no action
pub told-first : (range : Range) (configs : List Config) (past : List Record) → past ≡ [] → HasTold range configs [] past []
told-first range configs past none = record {
  records_are = none;
  explained = [];
  whole = record { turns_are = refl; clusters_are = refl; reasons = tt };
  told = λ more. refl;
}

-- what an action appends doesn't depend on the text before it
pub turn-following : (P : List (List ℕ) → Type 0) (is_shown : Bool) (sent : List (List ℕ)) (n : ℕ) (line : Line) (front old new : List ℕ) → AddsTurn P is_shown sent n line old new → AddsTurn P is_shown sent n line (front ++ old) (front ++ new)
turn-following P is_shown sent n line front old new h = record {
  reasons = h.reasons;
  some = h.some;
  such = h.such;
  added = ap (λ (t : List ℕ). front ++ t) h.added ∙ sym (append_assoc front old (if is_shown then lines_text sent n line h.reasons else []));
}
