-- What a text says of handlers, line by line.
use Rattle.serf_snapshot.proofs.Names.{Bool, List, None, Option, Some, [], and_from, and_parts, ap, append_assoc, arith, cond, common_steps, eq-eqb, eqb-true, false, inl, inr, not, refl, subst, sym, true, ℕ, ◌&&◌, ◌++◌, ◌==◌, ◌∙◌, ◌∷◌, ◌≡◌, ◌≤◌, ◌⊎◌, event_of_line, event_text, events_of_lines, if_event_wanted, is_event_wanted, is_whole, lines_of, option_map, TimedEvent}
use Rattle.std.proofs.lemmas.Bool.{true≢false}
use Rattle.std.proofs.lemmas.List.Elements.{All-contains, All-filter, Contains-append_cases, Contains-append_left, Contains-append_right, Contains-push, Contains-push_cases, All-contains_itself, All-cons, All-nil, All-weaker}
use Rattle.std.proofs.lemmas.Slice.Eq.{bytes_eq-Decides}
use Rattle.std.specs.List.{All, Contains, filter, list_any}
use Rattle.std.specs.Prelude.{map, nat_lt, ◌||◌}
use Rattle.std.specs.Str.{bytes_eq}
use Rattle.serf_snapshot.specs.Handlers.{begun_of_line, begun_text, done_of_line, done_up_to_of_line, first_of, handed_of_line, handler_line, is_done_up_to, is_open, is_tracked, mark_begun, mark_begun_if, mark_done, mark_done_up_to, mark_handed, open_after, open_after_lines, open_event, open_events, open_of_line, open_text, same_event, tracked_lines, begun_line}
use Rattle.serf_snapshot.specs.HandlerLaws.{BegunOnlyIfSaid, CanBeWritten, EventsAreHanded, HasBegun, IsSaidBegun, IsSaidDone, IsSaidHanded, NeverWaitsAgain, ReportedOrDone, Waits, WaitsOrBegan}
use Rattle.serf_snapshot.specs.declared.handlers.HandlerLine.{HandlerLine}
use Rattle.serf_snapshot.specs.declared.handlers.HandlerLine.TheVariants.{Begun, Done, DoneUpTo, Delivered}
use Rattle.serf_snapshot.specs.declared.handlers.OpenEvent.{OpenEvent}
use Rattle.serf_snapshot.specs.declared.kept.EntryFilter.{EntryFilter}
use Rattle.serf_snapshot.proofs.ClockLaws.{has_no_newline, lines_of-append}
use Rattle.serf_snapshot.proofs.EventLineLaws.{event_of_line-written, no_newline-event}
use Rattle.serf_snapshot.proofs.SayLaws.{lines-inside}

-- ---- the same event

bytes_eq-itself : (xs : List ℕ) → bytes_eq xs xs ≡ true
bytes_eq-itself xs = (bytes_eq-Decides xs xs).1 refl

pub same-itself : (e : TimedEvent) → same_event e e ≡ true
same-itself e = and_from _ _ (eq-eqb e.time e.time refl) (and_from _ _ (bytes_eq-itself e.name) (bytes_eq-itself e.payload))

pub same-is : (a b : TimedEvent) → same_event a b ≡ true → a ≡ b
same-is a b h =
    let p = and_parts (a.time == b.time) (bytes_eq a.name b.name && bytes_eq a.payload b.payload) h in
    let q = and_parts (bytes_eq a.name b.name) (bytes_eq a.payload b.payload) p.1 in
    let time : a.time ≡ b.time = eqb-true a.time b.time p.0 in
    let name : a.name ≡ b.name = (bytes_eq-Decides a.name b.name).0 q.0 in
    let payload : a.payload ≡ b.payload = (bytes_eq-Decides a.payload b.payload).0 q.1 in
    ap (λ (t : ℕ). record { time = t; name = a.name; payload = a.payload }) time
    ∙ ap (λ (n : List ℕ). record { time = b.time; name = n; payload = a.payload }) name
    ∙ ap (λ (p : List ℕ). record { time = b.time; name = b.name; payload = p }) payload

-- ---- lines one after the other

pub open-append : (open_list : List OpenEvent) (a b : List (List ℕ)) → open_after_lines open_list (a ++ b) ≡ open_after_lines (open_after_lines open_list a) b
open-append open_list [] b = refl
open-append open_list (l ∷ a) b = open-append (open_after open_list (handler_line l)) a b

-- the tracked lines of lines, if one of the first is `#done TIME`, and if none of them is
pub tracked-append : (a b : List (List ℕ)) → list_any is_done_up_to a ≡ true → tracked_lines (a ++ b) ≡ tracked_lines a ++ b
tracked-append [] b h = absurd (true≢false (sym h))
tracked-append (l ∷ a) b h = step (is_done_up_to l) h (tracked-append a b)
  where
    step : (t : Bool) → (t || list_any is_done_up_to a) ≡ true → (list_any is_done_up_to a ≡ true → tracked_lines (a ++ b) ≡ tracked_lines a ++ b) → cond t (a ++ b) (tracked_lines (a ++ b)) ≡ cond t a (tracked_lines a) ++ b
    step true some rest = refl
    step false some rest = rest some

pub untracked-append : (a b : List (List ℕ)) → list_any is_done_up_to a ≡ false → tracked_lines (a ++ b) ≡ tracked_lines b
untracked-append [] b h = refl
untracked-append (l ∷ a) b h = step (is_done_up_to l) h (untracked-append a b)
  where
    step : (t : Bool) → (t || list_any is_done_up_to a) ≡ false → (list_any is_done_up_to a ≡ false → tracked_lines (a ++ b) ≡ tracked_lines b) → cond t (a ++ b) (tracked_lines (a ++ b)) ≡ tracked_lines b
    step true some rest = absurd (true≢false some)
    step false none rest = rest none

pub open-joined : (text tail : List ℕ) → is_whole text ≡ true → is_tracked text ≡ true → open_events (text ++ tail) ≡ open_after_lines (open_events text) (lines_of tail)
open-joined text tail whole tracked =
    ap (λ (l : List (List ℕ)). open_after_lines [] (tracked_lines l)) (lines_of-append text tail whole)
    ∙ ap (open_after_lines []) (tracked-append (lines_of text) (lines_of tail) tracked)
    ∙ open-append [] (tracked_lines (lines_of text)) (lines_of tail)

-- ---- what a line says

pub handler_line-handed : (e : TimedEvent) → CanBeWritten e → handler_line (event_text e.time e.name e.payload) ≡ Some (Delivered e)
handler_line-handed e can =
    let line : List ℕ = event_text e.time e.name e.payload in
    ap (λ (o : Option TimedEvent). first_of (option_map Delivered (first_of o (open_of_line line))) (first_of (option_map Begun (begun_of_line line)) (first_of (option_map Done (done_of_line line)) (option_map DoneUpTo (done_up_to_of_line line)))))
    (event_of_line-written e.time e.name e.payload can.some can.small can.name can.payload)

open_of_line-written : (e : TimedEvent) → CanBeWritten e → open_of_line (open_text e.time e.name e.payload) ≡ Some e
open_of_line-written e can = event_of_line-written e.time e.name e.payload can.some can.small can.name can.payload

pub handler_line-opened : (e : TimedEvent) → CanBeWritten e → handler_line (open_text e.time e.name e.payload) ≡ Some (Delivered e)
handler_line-opened e can =
    let line : List ℕ = open_text e.time e.name e.payload in
    ap (λ (o : Option TimedEvent). first_of (option_map Delivered o) (first_of (option_map Begun (begun_of_line line)) (first_of (option_map Done (done_of_line line)) (option_map DoneUpTo (done_up_to_of_line line))))) (open_of_line-written e can)

pub begun_of_line-written : (e : TimedEvent) → CanBeWritten e → begun_of_line (begun_text e.time e.name e.payload) ≡ Some e
begun_of_line-written e can = event_of_line-written e.time e.name e.payload can.some can.small can.name can.payload

pub handler_line-begun : (e : TimedEvent) → CanBeWritten e → handler_line (begun_text e.time e.name e.payload) ≡ Some (Begun e)
handler_line-begun e can =
    let line : List ℕ = begun_text e.time e.name e.payload in
    ap (λ (o : Option TimedEvent). first_of (option_map Begun o) (first_of (option_map Done (done_of_line line)) (option_map DoneUpTo (done_up_to_of_line line)))) (begun_of_line-written e can)

pub no_newline-begun : (t : ℕ) (name payload : List ℕ) → has_no_newline (begun_text t name payload) ≡ true
no_newline-begun t name payload = no_newline-event t name payload

-- what a line says of the event that it hands out
handed-is : (line : List ℕ) (e : TimedEvent) → handler_line line ≡ Some (Delivered e) → handed_of_line line ≡ Some e
handed-is line e h = by (handed_of_line line) h
  where
    last : (o : Option ℕ) → option_map DoneUpTo o ≡ Some (Delivered e) → ⊥
    last None is = absurd (cc is)
    last (Some t) is = absurd (cc is)

    third : (o : Option TimedEvent) → first_of (option_map Done o) (option_map DoneUpTo (done_up_to_of_line line)) ≡ Some (Delivered e) → ⊥
    third None is = last (done_up_to_of_line line) is
    third (Some d) is = absurd (cc is)

    second : (o : Option TimedEvent) → first_of (option_map Begun o) (first_of (option_map Done (done_of_line line)) (option_map DoneUpTo (done_up_to_of_line line))) ≡ Some (Delivered e) → ⊥
    second None is = third (done_of_line line) is
    second (Some d) is = absurd (cc is)

    by : (o : Option TimedEvent) → first_of (option_map Delivered o) (first_of (option_map Begun (begun_of_line line)) (first_of (option_map Done (done_of_line line)) (option_map DoneUpTo (done_up_to_of_line line)))) ≡ Some (Delivered e) → o ≡ Some e
    by None is = absurd (second (begun_of_line line) is)
    by (Some d) is = cc is

-- ---- what is open after a line was open before it, or the line opened it

old-or-marked : (d : TimedEvent) (open_list : List OpenEvent) (o : OpenEvent) → Contains (mark_begun d open_list) o → Contains open_list o ⊎ ((o.event ≡ d) × (o.has_begun ≡ true))
old-or-marked d [] o c = absurd (omega (arith, c.1))
old-or-marked d (x ∷ xs) o c = elim (Contains-append_cases (mark_begun_if d x ∷ []) (mark_begun d xs) o c) [
  | inl first ↦ elim (Contains-push_cases [] (mark_begun_if d x) o first) [
    | inl none ↦ absurd (omega (arith, none.1))
    | inr is ↦ step (same_event d x.event) refl is
  ]
  | inr rest ↦ elim (old-or-marked d xs o rest) [
    | inl old ↦ inl (Contains-append_right (x ∷ []) xs o old)
    | inr marked ↦ inr marked
  ]
]
  where
    step : (b : Bool) → same_event d x.event ≡ b → cond b (open_event x.event true) x ≡ o → Contains (x ∷ xs) o ⊎ ((o.event ≡ d) × (o.has_begun ≡ true))
    step true same is = inr (ap (λ (y : OpenEvent). y.event) (sym is) ∙ sym (same-is d x.event same), ap (λ (y : OpenEvent). y.has_begun) (sym is))
    step false other is = inl (subst (Contains (x ∷ xs)) is (Contains-append_left (x ∷ []) xs x (Contains-push [] x)))

fewer : (p : OpenEvent → Bool) (open_list : List OpenEvent) (o : OpenEvent) → Contains (filter p open_list) o → Contains open_list o
fewer p open_list o c = All-contains (Contains open_list) (filter p open_list) o (All-filter p (Contains open_list) open_list (All-contains_itself open_list)) c

-- where an open event comes from
abbrev ComesFrom : List OpenEvent → Option HandlerLine → OpenEvent → Type 0
ComesFrom open_list said o = Contains open_list o ⊎ ((said ≡ Some (Delivered o.event)) × (o.has_begun ≡ false)) ⊎ ((said ≡ Some (Begun o.event)) × (o.has_begun ≡ true))

comes : (open_list : List OpenEvent) (said : Option HandlerLine) (o : OpenEvent) → Contains (open_after open_list said) o → ComesFrom open_list said o
comes open_list None o c = inl c
comes open_list (Some (Delivered e)) o c = step (is_open e open_list) c
  where
    step : (b : Bool) → Contains (cond b open_list (open_list ++ open_event e false ∷ [])) o → ComesFrom open_list (Some (Delivered e)) o
    step true old = inl old
    step false more = elim (Contains-push_cases open_list (open_event e false) o more) [
      | inl old ↦ inl old
      | inr is ↦ inr (inl (ap (λ (y : OpenEvent). Some (Delivered y.event)) is, ap (λ (y : OpenEvent). y.has_begun) (sym is)))
    ]
comes open_list (Some (Begun e)) o c = elim (old-or-marked e open_list o c) [
  | inl old ↦ inl old
  | inr marked ↦ inr (inr (ap (λ (d : TimedEvent). Some (Begun d)) (sym marked.0), marked.1))
]
comes open_list (Some (Done e)) o c = inl (fewer (λ (x : OpenEvent). not (same_event e x.event)) open_list o c)
comes open_list (Some (DoneUpTo t)) o c = inl (fewer (λ (x : OpenEvent). nat_lt t x.event.time) open_list o c)

first-line : (l : List ℕ) (lines : List (List ℕ)) → Contains (l ∷ lines) l
first-line l lines = Contains-append_left (l ∷ []) lines l (Contains-push [] l)

began-on : (e : TimedEvent) (open_list : List OpenEvent) (lines : List (List ℕ)) → Contains (open_after_lines open_list lines) (open_event e true) → Contains open_list (open_event e true) ⊎ IsSaidBegun e lines
began-on e open_list [] c = inl c
began-on e open_list (l ∷ lines) c = elim (began-on e (open_after open_list (handler_line l)) lines c) [
  | inl here ↦ elim (comes open_list (handler_line l) (open_event e true) here) [
    | inl old ↦ inl old
    | inr new ↦ elim new [
      | inl handed ↦ absurd (true≢false handed.1)
      | inr begun ↦ inr (l, first-line l lines, begun.0)
    ]
  ]
  | inr said ↦ inr (said.0, Contains-append_right (l ∷ []) lines said.0 said.1, said.2)
]

pub begun-only-if-said : BegunOnlyIfSaid
begun-only-if-said text e c = elim (began-on e [] (tracked_lines (lines_of text)) c) [
  | inl none ↦ absurd (omega (arith, none.1))
  | inr said ↦ said
]

-- ---- an event that has begun doesn't wait again

waits-on : (e : TimedEvent) (open_list : List OpenEvent) (lines : List (List ℕ)) → (Contains open_list (open_event e false) → ⊥) → ((line : List ℕ) → Contains lines line → handed_of_line line ≡ Some e → ⊥) → Contains (open_after_lines open_list lines) (open_event e false) → ⊥
waits-on e open_list [] none new c = none c
waits-on e open_list (l ∷ lines) none new c =
    waits-on e (open_after open_list (handler_line l)) lines
    (λ here. elim (comes open_list (handler_line l) (open_event e false) here) [
      | inl old ↦ none old
      | inr other ↦ elim other [
        | inl handed ↦ new l (first-line l lines) (handed-is l e handed.0)
        | inr begun ↦ true≢false (sym begun.1)
      ]
    ])
    (λ line there is. new line (Contains-append_right (l ∷ []) lines line there) is) c

gone : (e : TimedEvent) (open_list : List OpenEvent) → Contains (mark_begun e open_list) (open_event e false) → ⊥
gone e [] c = absurd (omega (arith, c.1))
gone e (x ∷ xs) c = elim (Contains-append_cases (mark_begun_if e x ∷ []) (mark_begun e xs) (open_event e false) c) [
  | inl first ↦ elim (Contains-push_cases [] (mark_begun_if e x) (open_event e false) first) [
    | inl none ↦ absurd (omega (arith, none.1))
    | inr is ↦ step (same_event e x.event) refl is
  ]
  | inr rest ↦ gone e xs rest
]
  where
    step : (b : Bool) → same_event e x.event ≡ b → cond b (open_event x.event true) x ≡ open_event e false → ⊥
    step true same is = true≢false (ap (λ (y : OpenEvent). y.has_begun) is)
    step false other is = true≢false (sym (same-itself e) ∙ ap (λ (y : OpenEvent). same_event e y.event) (sym is) ∙ other)

tracked-within : (lines : List (List ℕ)) (line : List ℕ) → Contains (tracked_lines lines) line → Contains lines line
tracked-within [] line c = c
tracked-within (l ∷ lines) line c = Contains-append_right (l ∷ []) lines line (step (is_done_up_to l) c (tracked-within lines line))
  where
    step : (b : Bool) → Contains (cond b lines (tracked_lines lines)) line → (Contains (tracked_lines lines) line → Contains lines line) → Contains lines line
    step true there rest = there
    step false there rest = rest there

pub never-waits-again : NeverWaitsAgain
never-waits-again text tail e whole can new c =
    let l : List ℕ = begun_text e.time e.name e.payload in
    let lines : lines_of (text ++ (begun_line e.time e.name e.payload ++ tail)) ≡ lines_of text ++ l ∷ lines_of tail =
    ap (λ (x : List ℕ). lines_of (text ++ x)) (append_assoc l (10 ∷ []) tail) ∙ lines-inside text l tail whole (no_newline-begun e.time e.name e.payload) in
    by (is_tracked text) refl (subst (λ (x : List (List ℕ)). Contains (open_after_lines [] (tracked_lines x)) (open_event e false)) lines c)
  where
    said : (xs : List OpenEvent) → open_after xs (handler_line (begun_text e.time e.name e.payload)) ≡ mark_begun e xs
    said xs = ap (open_after xs) (handler_line-begun e can)

    by : (b : Bool) → is_tracked text ≡ b → Contains (open_after_lines [] (tracked_lines (lines_of text ++ begun_text e.time e.name e.payload ∷ lines_of tail))) (open_event e false) → ⊥
    by true tracked there =
        let read : open_after_lines [] (tracked_lines (lines_of text ++ begun_text e.time e.name e.payload ∷ lines_of tail)) ≡ open_after_lines (mark_begun e (open_events text)) (lines_of tail) =
        ap (open_after_lines []) (tracked-append (lines_of text) (begun_text e.time e.name e.payload ∷ lines_of tail) tracked)
        ∙ open-append [] (tracked_lines (lines_of text)) (begun_text e.time e.name e.payload ∷ lines_of tail)
        ∙ ap (λ (xs : List OpenEvent). open_after_lines xs (lines_of tail)) (said (open_events text)) in
        waits-on e (mark_begun e (open_events text)) (lines_of tail) (gone e (open_events text)) new (subst (λ (xs : List OpenEvent). Contains xs (open_event e false)) read there)
    by false untracked there =
        let read : open_after_lines [] (tracked_lines (lines_of text ++ begun_text e.time e.name e.payload ∷ lines_of tail)) ≡ open_after_lines [] (tracked_lines (lines_of tail)) =
        ap (open_after_lines []) (untracked-append (lines_of text) (begun_text e.time e.name e.payload ∷ lines_of tail) untracked) in
        waits-on e [] (tracked_lines (lines_of tail)) (λ none. absurd (omega (arith, none.1))) (λ line within is. new line (tracked-within (lines_of tail) line within) is) (subst (λ (xs : List OpenEvent). Contains xs (open_event e false)) read there)

-- ---- an event that is handed out stays open until a line says that it is done

abbrev Reported : List OpenEvent → TimedEvent → Type 0
Reported open_list e = (b : Bool) × Contains open_list (open_event e b)

abbrev SaidDone : TimedEvent → Option HandlerLine → Type 0
SaidDone e said = (said ≡ Some (Done e)) ⊎ ((time : ℕ) × (said ≡ Some (DoneUpTo time)) × (e.time ≤ time))

passes : {A : Type 0} (test : A → Bool) (xs : List A) (x : A) → Contains xs x → test x ≡ true → Contains (filter test xs) x
passes {A} test xs x c = All-contains (λ (y : A). test y ≡ true → Contains (filter test xs) y) xs x (all xs) c
  where
    all : (ys : List A) → All (λ (y : A). test y ≡ true → Contains (filter test ys) y) ys
    all [] = All-nil (λ (y : A). test y ≡ true → Contains (filter test []) y)
    all (y ∷ ys) = step (test y) refl (all ys)
      where
        step : (b : Bool) → test y ≡ b → All (λ (z : A). test z ≡ true → Contains (filter test ys) z) ys → All (λ (z : A). test z ≡ true → Contains (cond b (y ∷ filter test ys) (filter test ys)) z) (y ∷ ys)
        step true is rest =
            All-cons (λ (z : A). test z ≡ true → Contains (y ∷ filter test ys) z) y ys (λ _. (0, omega arith, refl))
            (All-weaker (λ (z : A). test z ≡ true → Contains (filter test ys) z) (λ (z : A). test z ≡ true → Contains (y ∷ filter test ys) z) (λ z h ok. Contains-append_right (y ∷ []) (filter test ys) z (h ok)) ys rest)
        step false is rest = All-cons (λ (z : A). test z ≡ true → Contains (filter test ys) z) y ys (λ ok. absurd (true≢false (sym ok ∙ is))) rest

goes-to : {A B : Type 0} (f : A → B) (xs : List A) (x : A) → Contains xs x → Contains (map f xs) (f x)
goes-to {A} {B} f xs x c = All-contains (λ (y : A). Contains (map f xs) (f y)) xs x (all xs) c
  where
    all : (ys : List A) → All (λ (y : A). Contains (map f ys) (f y)) ys
    all [] = All-nil (λ (y : A). Contains (map f []) (f y))
    all (y ∷ ys) =
        All-cons (λ (z : A). Contains (map f (y ∷ ys)) (f z)) y ys (0, omega arith, refl)
        (All-weaker (λ (z : A). Contains (map f ys) (f z)) (λ (z : A). Contains (map f (y ∷ ys)) (f z)) (λ z h. Contains-append_right (f y ∷ []) (map f ys) (f z) h) ys (all ys))

stays : (e : TimedEvent) (open_list : List OpenEvent) (said : Option HandlerLine) → Reported open_list e → Reported (open_after open_list said) e ⊎ SaidDone e said
stays e open_list None c = inl c
stays e open_list (Some (Delivered d)) c = inl (step (is_open d open_list))
  where
    step : (b : Bool) → Reported (cond b open_list (open_list ++ open_event d false ∷ [])) e
    step true = c
    step false = (c.0, Contains-append_left open_list (open_event d false ∷ []) (open_event e c.0) c.1)
stays e open_list (Some (Begun d)) c = inl (step (same_event d e) (goes-to (mark_begun_if d) open_list (open_event e c.0) c.1))
  where
    step : (b : Bool) → Contains (mark_begun d open_list) (cond b (open_event e true) (open_event e c.0)) → Reported (mark_begun d open_list) e
    step true there = (true, there)
    step false there = (c.0, there)
stays e open_list (Some (Done d)) c = step (same_event d e) refl
  where
    step : (b : Bool) → same_event d e ≡ b → Reported (mark_done d open_list) e ⊎ SaidDone e (Some (Done d))
    step true same = inr (inl (ap (λ (y : TimedEvent). Some (Done y)) (same-is d e same)))
    step false other = inl (c.0, passes (λ (x : OpenEvent). not (same_event d x.event)) open_list (open_event e c.0) c.1 (ap not other))
stays e open_list (Some (DoneUpTo t)) c = step (nat_lt t e.time) refl
  where
    step : (b : Bool) → nat_lt t e.time ≡ b → Reported (mark_done_up_to t open_list) e ⊎ SaidDone e (Some (DoneUpTo t))
    step true above = inl (c.0, passes (λ (x : OpenEvent). nat_lt t x.event.time) open_list (open_event e c.0) c.1 above)
    step false within = inr (inr (t, refl, grind (arith, common_steps)))

later : (e : TimedEvent) (l : List ℕ) (lines : List (List ℕ)) → IsSaidDone e lines → IsSaidDone e (l ∷ lines)
later e l lines s = (s.0, Contains-append_right (l ∷ []) lines s.0 s.1, s.2)

stays-on : (e : TimedEvent) (open_list : List OpenEvent) (lines : List (List ℕ)) → Reported open_list e → Reported (open_after_lines open_list lines) e ⊎ IsSaidDone e lines
stays-on e open_list [] c = inl c
stays-on e open_list (l ∷ lines) c = elim (stays e open_list (handler_line l) c) [
  | inl on ↦ elim (stays-on e (open_after open_list (handler_line l)) lines on) [
    | inl reported ↦ inl reported
    | inr said ↦ inr (later e l lines said)
  ]
  | inr said ↦ inr (l, first-line l lines, said)
]

any-open : (e : TimedEvent) (open_list : List OpenEvent) → is_open e open_list ≡ true → Reported open_list e
any-open e [] h = absurd (true≢false (sym h))
any-open e (x ∷ xs) h = step (same_event e x.event) refl h (any-open e xs)
  where
    step : (b : Bool) → same_event e x.event ≡ b → (b || is_open e xs) ≡ true → (is_open e xs ≡ true → Reported xs e) → Reported (x ∷ xs) e
    step true same some rest = (x.has_begun, subst (λ (d : TimedEvent). Contains (x ∷ xs) (open_event d x.has_begun)) (sym (same-is e x.event same)) (Contains-append_left (x ∷ []) xs x (Contains-push [] x)))
    step false other some rest = let r = rest some in (r.0, Contains-append_right (x ∷ []) xs (open_event e r.0) r.1)

opened : (e : TimedEvent) (open_list : List OpenEvent) → Reported (mark_handed e open_list) e
opened e open_list = step (is_open e open_list) refl
  where
    step : (b : Bool) → is_open e open_list ≡ b → Reported (cond b open_list (open_list ++ open_event e false ∷ [])) e
    step true is = any-open e open_list is
    step false is = (false, Contains-push open_list (open_event e false))

wanted-is : (w : EntryFilter) (o : Option TimedEvent) (e : TimedEvent) → Contains (if_event_wanted w o) e → o ≡ Some e
wanted-is w None e c = absurd (omega (arith, c.1))
wanted-is w (Some x) e c = step (is_event_wanted w x) c
  where
    step : (b : Bool) → Contains (cond b (x ∷ []) []) e → Some x ≡ Some e
    step true there = elim (Contains-push_cases [] x e there) [
      | inl none ↦ absurd (omega (arith, none.1))
      | inr is ↦ ap (λ (y : TimedEvent). Some y) is
    ]
    step false there = absurd (omega (arith, there.1))

handed-line : (line : List ℕ) (e : TimedEvent) → handed_of_line line ≡ Some e → handler_line line ≡ Some (Delivered e)
handed-line line e is =
    ap (λ (o : Option TimedEvent). first_of (option_map Delivered o) (first_of (option_map Begun (begun_of_line line)) (first_of (option_map Done (done_of_line line)) (option_map DoneUpTo (done_up_to_of_line line))))) is

event-handed : (line : List ℕ) (e : TimedEvent) → event_of_line line ≡ Some e → handed_of_line line ≡ Some e
event-handed line e is = ap (λ (o : Option TimedEvent). first_of o (open_of_line line)) is

later-handed : (e : TimedEvent) (l : List ℕ) (lines : List (List ℕ)) → IsSaidHanded e lines → IsSaidHanded e (l ∷ lines)
later-handed e l lines s = (s.0, Contains-append_right (l ∷ []) lines s.0 s.1, s.2)

pub events-are-handed : EventsAreHanded
events-are-handed w [] e c = absurd (omega (arith, c.1))
events-are-handed w (l ∷ lines) e c = elim (Contains-append_cases (if_event_wanted w (event_of_line l)) (events_of_lines w lines) e c) [
  | inl own ↦ (l, first-line l lines, event-handed l e (wanted-is w (event_of_line l) e own))
  | inr rest ↦ later-handed e l lines (events-are-handed w lines e rest)
]

reported-on : (e : TimedEvent) (open_list : List OpenEvent) (lines : List (List ℕ)) → IsSaidHanded e lines → Reported (open_after_lines open_list lines) e ⊎ IsSaidDone e lines
reported-on e open_list [] s = absurd (omega (arith, s.1.1))
reported-on e open_list (l ∷ lines) s = elim (Contains-append_cases (l ∷ []) lines s.0 s.1) [
  | inl own ↦ elim (Contains-push_cases [] l s.0 own) [
    | inl none ↦ absurd (omega (arith, none.1))
    | inr is ↦
        let said : handler_line l ≡ Some (Delivered e) = handed-line l e (ap handed_of_line is ∙ s.2) in
        let now : Reported (open_after open_list (handler_line l)) e = subst (λ (h : Option HandlerLine). Reported (open_after open_list h) e) (sym said) (opened e open_list) in
        elim (stays-on e (open_after open_list (handler_line l)) lines now) [
          | inl reported ↦ inl reported
          | inr done ↦ inr (later e l lines done)
        ]
  ]
  | inr rest ↦ elim (reported-on e (open_after open_list (handler_line l)) lines (s.0, rest, s.2)) [
    | inl reported ↦ inl reported
    | inr done ↦ inr (later e l lines done)
  ]
]

either : (open_list : List OpenEvent) (e : TimedEvent) → Reported open_list e → Waits open_list e ⊎ HasBegun open_list e
either open_list e r = step r.0 r.1
  where
    step : (b : Bool) → Contains open_list (open_event e b) → Waits open_list e ⊎ HasBegun open_list e
    step true c = inr c
    step false c = inl c

pub reported-or-done : ReportedOrDone
reported-or-done text e c = elim (reported-on e [] (tracked_lines (lines_of text)) c) [
  | inl reported ↦ elim (either (open_events text) e reported) [
    | inl waits ↦ inl waits
    | inr begun ↦ inr (inl begun)
  ]
  | inr done ↦ inr (inr done)
]

pub waits-or-began : WaitsOrBegan
waits-or-began text e c = elim (reported-or-done text e c) [
  | inl waits ↦ inl waits
  | inr other ↦ elim other [
    | inl begun ↦ inr (inl (begun-only-if-said text e begun))
    | inr done ↦ inr (inr done)
  ]
]
