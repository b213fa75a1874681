-- Texts that differ only in other lines read the same.
use Rattle.serf_snapshot.proofs.Names.{All, All-head, All-nil, All-tail, Bool, List, None, Option, Some, [], and_from, and_parts, ap, append_assoc, arith, cond, cond-false, cond-true, decimal, eqb-true, false, flat_map, length, length-append, max, not, not-true, refl, subst, sym, true, true≢false, ℕ, ◌&&◌, ◌++◌, ◌-◌, ◌<◌, ◌==◌, ◌^◌, ◌∙◌, ◌∷◌, ◌≡◌, ◌≤◌, IsBytes, ClockKind, Event, Member, Query, EntryFilter, KeptQuery, TimedEvent, is_whole, largest, last_clock, line_value, lines_of, prefix_of, sealed, event_of_line, event_text, events_in, if_event_wanted, if_query_wanted, kept_clock_text, kept_query, min_in, min_of_line, min_of_lines, min_text, queries_in, query_of_line, query_text, timed_event}
use Rattle.std.proofs.lemmas.List.Elements.{filter-append}
use Rattle.std.specs.List.{filter, list_any}
use Rattle.std.specs.Prelude.{is_some, ◌||◌}
use Rattle.serf_snapshot.specs.Clocks.{seal_line}
use Rattle.serf_snapshot.specs.Handlers.{begun_line, begun_text, open_line, open_text}
use Rattle.serf_snapshot.specs.HandlerLaws.{lines_of_open, open_lines}
use Rattle.serf_snapshot.specs.OtherLines.{AreOtherLines, DiffersInOtherLines, is_other_line, own_lines, says_no_time, says_no_times, torn_part}
use Rattle.serf_snapshot.specs.declared.handlers.OpenEvent.{OpenEvent}
use Rattle.serf_snapshot.proofs.ClockLaws.{has_no_newline, is_whole-push, line_value-written, lines_of-append, lines_of-one}
use Rattle.serf_snapshot.proofs.EventLineLaws.{event_of_line-written, no_newline-event, query_of_line-written}
use Rattle.serf_snapshot.proofs.KeptAppendLineLaws.{is_whole-append}
use Rattle.serf_snapshot.proofs.MinTimeLaws.{kept_value, min_of_line-own}
use Rattle.serf_snapshot.proofs.SayLaws.{append_nil, no_lines}
use Rattle.serf_snapshot.proofs.UntrackedLaws.{all-joined, all-one}

-- ---- what another line says

record SaysNothing (line : List ℕ) : Type 0 where
  times : (k : ClockKind) → (line_value k line ≡ 0) × (min_of_line k line ≡ 0)
  no_event : event_of_line line ≡ None
  no_query : query_of_line line ≡ None

none-is : {A : Type 0} (o : Option A) → not (is_some o) ≡ true → o ≡ None
none-is None h = refl
none-is (Some x) h = absurd (true≢false (sym h))

no-time : (k : ClockKind) (line : List ℕ) → says_no_time k line ≡ true → (line_value k line ≡ 0) × (min_of_line k line ≡ 0)
no-time k line h = let p = and_parts (line_value k line == 0) (min_of_line k line == 0) h in (eqb-true (line_value k line) 0 p.0, eqb-true (min_of_line k line) 0 p.1)

other-says : (line : List ℕ) → is_other_line line ≡ true → SaysNothing line
other-says line h =
    let p = and_parts (says_no_times line) (not (is_some (event_of_line line)) && not (is_some (query_of_line line))) h in
    let member = and_parts (says_no_time Member line) (says_no_time Event line && says_no_time Query line) p.0 in
    let others = and_parts (says_no_time Event line) (says_no_time Query line) member.1 in
    let items = and_parts (not (is_some (event_of_line line))) (not (is_some (query_of_line line))) p.1 in
    record { times = by member.0 others.0 others.1; no_event = none-is (event_of_line line) items.0; no_query = none-is (query_of_line line) items.1 }
  where
    by : says_no_time Member line ≡ true → says_no_time Event line ≡ true → says_no_time Query line ≡ true → (k : ClockKind) → (line_value k line ≡ 0) × (min_of_line k line ≡ 0)
    by member event query Member = no-time Member line member
    by member event query Event = no-time Event line event
    by member event query Query = no-time Query line query

-- ---- lines without the other lines read the same

abbrev own : List (List ℕ) → List (List ℕ)
own lines = filter (λ (line : List ℕ). not (is_other_line line)) lines

largest-own : (k : ClockKind) (lines : List (List ℕ)) → largest k lines ≡ largest k (own lines)
largest-own k [] = refl
largest-own k (l ∷ lines) = step (is_other_line l) refl (largest-own k lines)
  where
    step : (b : Bool) → is_other_line l ≡ b → largest k lines ≡ largest k (own lines) → max (line_value k l) (largest k lines) ≡ largest k (cond (not b) (l ∷ own lines) (own lines))
    step true is ih = let none : line_value k l ≡ 0 = ((other-says l is).times k).0 in omega (arith, none, ih)
    step false is ih = ap (max (line_value k l)) ih

min-own : (k : ClockKind) (lines : List (List ℕ)) → min_of_lines k lines ≡ min_of_lines k (own lines)
min-own k [] = refl
min-own k (l ∷ lines) = step (is_other_line l) refl (min-own k lines)
  where
    step : (b : Bool) → is_other_line l ≡ b → min_of_lines k lines ≡ min_of_lines k (own lines) → max (min_of_line k l) (min_of_lines k lines) ≡ min_of_lines k (cond (not b) (l ∷ own lines) (own lines))
    step true is ih = let none : min_of_line k l ≡ 0 = ((other-says l is).times k).1 in omega (arith, none, ih)
    step false is ih = ap (max (min_of_line k l)) ih

items-own : {A : Type 0} (f : List ℕ → List A) → ((line : List ℕ) → is_other_line line ≡ true → f line ≡ []) → (lines : List (List ℕ)) → flat_map f lines ≡ flat_map f (own lines)
items-own f none [] = refl
items-own {A} f none (l ∷ lines) = step (is_other_line l) refl (items-own f none lines)
  where
    step : (b : Bool) → is_other_line l ≡ b → flat_map f lines ≡ flat_map f (own lines) → f l ++ flat_map f lines ≡ flat_map f (cond (not b) (l ∷ own lines) (own lines))
    step true is ih = ap (λ (x : List A). x ++ flat_map f lines) (none l is) ∙ ih
    step false is ih = ap (λ (x : List A). f l ++ x) ih

pub same-clock : (k : ClockKind) (a b : List ℕ) → DiffersInOtherLines a b → last_clock k a ≡ last_clock k b
same-clock k a b d = largest-own k (lines_of a) ∙ ap (largest k) d.lines ∙ sym (largest-own k (lines_of b))

pub same-min : (k : ClockKind) (a b : List ℕ) → DiffersInOtherLines a b → min_in k a ≡ min_in k b
same-min k a b d = min-own k (lines_of a) ∙ ap (min_of_lines k) d.lines ∙ sym (min-own k (lines_of b))

pub same-events : (w : EntryFilter) (a b : List ℕ) → DiffersInOtherLines a b → events_in w a ≡ events_in w b
same-events w a b d =
    let f : List ℕ → List TimedEvent = λ line. if_event_wanted w (event_of_line line) in
    let none : (line : List ℕ) → is_other_line line ≡ true → f line ≡ [] = λ line is. ap (if_event_wanted w) (other-says line is).no_event in
    items-own f none (lines_of a) ∙ ap (flat_map f) d.lines ∙ sym (items-own f none (lines_of b))

pub same-queries : (w : EntryFilter) (a b : List ℕ) → DiffersInOtherLines a b → queries_in w a ≡ queries_in w b
same-queries w a b d =
    let f : List ℕ → List KeptQuery = λ line. if_query_wanted w (query_of_line line) in
    let none : (line : List ℕ) → is_other_line line ≡ true → f line ≡ [] = λ line is. ap (if_query_wanted w) (other-says line is).no_query in
    items-own f none (lines_of a) ∙ ap (flat_map f) d.lines ∙ sym (items-own f none (lines_of b))

-- ---- whole lines, and then the torn part

abbrev is_newline : ℕ → Bool
is_newline b = b == 10

or-left : (a b : Bool) → a ≡ true → (a || b) ≡ true
or-left true b h = refl
or-left false b h = absurd (true≢false (sym h))

or-right : (a b : Bool) → b ≡ true → (a || b) ≡ true
or-right true b h = refl
or-right false b h = h

or-parts : (a b : Bool) → (a || b) ≡ false → (a ≡ false) × (b ≡ false)
or-parts true b h = absurd (true≢false h)
or-parts false b h = (refl, h)

no-newline : (xs : List ℕ) → list_any is_newline xs ≡ false → has_no_newline xs ≡ true
no-newline [] h = refl
no-newline (x ∷ xs) h = let p = or-parts (is_newline x) (list_any is_newline xs) h in and_from _ _ (ap not p.0) (no-newline xs p.1)

any-newline : (xs : List ℕ) → has_no_newline xs ≡ true → list_any is_newline xs ≡ false
any-newline [] h = refl
any-newline (x ∷ xs) h = let p = and_parts (not (is_newline x)) (has_no_newline xs) h in ap (λ (b : Bool). b || list_any is_newline xs) (not-true (is_newline x) p.0) ∙ any-newline xs p.1

whole-push : (b : ℕ) (front : List ℕ) → is_whole front ≡ true → (front ≡ [] → is_newline b ≡ true) → is_whole (b ∷ front) ≡ true
whole-push b [] whole last = last refl
whole-push b (c ∷ front) whole last = whole

-- whole lines, with the torn part after them
abbrev Split : List ℕ → List ℕ → Type 0
Split text torn = (front : List ℕ) × (text ≡ front ++ torn) × (is_whole front ≡ true) × (has_no_newline torn ≡ true)

split : (text : List ℕ) → Split text (torn_part text)
split [] = ([], refl, refl, refl)
split (b ∷ bs) = step (list_any is_newline (b ∷ bs)) refl (split bs)
  where
    step : (t : Bool) → list_any is_newline (b ∷ bs) ≡ t → Split bs (torn_part bs) → Split (b ∷ bs) (cond t (torn_part bs) (b ∷ bs))
    step false none s = ([], refl, refl, no-newline (b ∷ bs) none)
    step true some s = (b ∷ s.0, ap (λ (l : List ℕ). b ∷ l) s.1, whole-push b s.0 s.2 last, s.3)
      where
        last : s.0 ≡ [] → is_newline b ≡ true
        last empty =
            let rest : list_any is_newline bs ≡ false = ap (list_any is_newline) (s.1 ∙ ap (λ (l : List ℕ). l ++ torn_part bs) empty) ∙ any-newline (torn_part bs) s.3 in
            by (is_newline b) (ap (λ (r : Bool). is_newline b || r) (sym rest) ∙ some)
          where
            by : (t : Bool) → (t || false) ≡ true → t ≡ true
            by true h = refl
            by false h = h

-- after whole lines, the torn part and the end of the last line are those of what follows
has-newline : (b : ℕ) (front tail : List ℕ) → is_whole (b ∷ front) ≡ true → list_any is_newline (b ∷ (front ++ tail)) ≡ true
has-newline b [] tail whole = or-left (is_newline b) (list_any is_newline tail) whole
has-newline b (c ∷ front) tail whole = or-right (is_newline b) _ (has-newline c front tail whole)

torn-after : (front tail : List ℕ) → is_whole front ≡ true → torn_part (front ++ tail) ≡ torn_part tail
torn-after [] tail whole = refl
torn-after (b ∷ []) tail whole = cond-true _ _ _ (has-newline b [] tail whole)
torn-after (b ∷ c ∷ front) tail whole = cond-true _ _ _ (has-newline b (c ∷ front) tail whole) ∙ torn-after (c ∷ front) tail whole

whole-after : (front tail : List ℕ) → is_whole front ≡ true → is_whole (front ++ tail) ≡ is_whole tail
whole-after [] tail whole = refl
whole-after (b ∷ []) [] whole = whole
whole-after (b ∷ []) (c ∷ tail) whole = refl
whole-after (b ∷ c ∷ front) tail whole = whole-after (c ∷ front) tail whole

whole-torn : (text : List ℕ) → is_whole text ≡ is_whole (torn_part text)
whole-torn text = let s = split text in ap is_whole s.1 ∙ whole-after s.0 (torn_part text) s.2

torn-append : (text tail : List ℕ) → torn_part (text ++ tail) ≡ torn_part (torn_part text ++ tail)
torn-append text tail =
    let s = split text in
    ap (λ (l : List ℕ). torn_part (l ++ tail)) s.1
    ∙ ap torn_part (append_assoc s.0 (torn_part text) tail)
    ∙ torn-after s.0 (torn_part text ++ tail) s.2

lines-append : (text tail : List ℕ) → lines_of (text ++ tail) ≡ lines_of text ++ lines_of (torn_part text ++ tail)
lines-append text tail =
    let s = split text in
    let torn = torn_part text in
    let front : lines_of text ≡ lines_of s.0 = ap lines_of s.1 ∙ lines_of-append s.0 torn s.2 ∙ ap (λ (l : List (List ℕ)). lines_of s.0 ++ l) (no_lines torn s.3) ∙ append_nil (lines_of s.0) in
    ap (λ (l : List ℕ). lines_of (l ++ tail)) s.1
    ∙ ap lines_of (append_assoc s.0 torn tail)
    ∙ lines_of-append s.0 (torn ++ tail) s.2
    ∙ ap (λ (l : List (List ℕ)). l ++ lines_of (torn ++ tail)) (sym front)

own-append : (text tail : List ℕ) → own_lines (text ++ tail) ≡ own_lines text ++ own_lines (torn_part text ++ tail)
own-append text tail = ap own (lines-append text tail) ∙ filter-append (λ (line : List ℕ). not (is_other_line line)) (lines_of text) (lines_of (torn_part text ++ tail))

-- ---- the relation

pub differs-itself : (a : List ℕ) → DiffersInOtherLines a a
differs-itself a = record { lines = refl; torn = refl }

pub differs-swapped : (a b : List ℕ) → DiffersInOtherLines a b → DiffersInOtherLines b a
differs-swapped a b d = record { lines = sym d.lines; torn = sym d.torn }

pub differs-joined : (a b c : List ℕ) → DiffersInOtherLines a b → DiffersInOtherLines b c → DiffersInOtherLines a c
differs-joined a b c d e = record { lines = d.lines ∙ e.lines; torn = d.torn ∙ e.torn }

pub differs-whole : (a b : List ℕ) → DiffersInOtherLines a b → is_whole a ≡ is_whole b
differs-whole a b d = whole-torn a ∙ ap is_whole d.torn ∙ sym (whole-torn b)

pub differs-appended : (a b tail : List ℕ) → DiffersInOtherLines a b → DiffersInOtherLines (a ++ tail) (b ++ tail)
differs-appended a b tail d = record {
  lines = own-append a tail
      ∙ ap (λ (l : List (List ℕ)). l ++ own_lines (torn_part a ++ tail)) d.lines
      ∙ ap (λ (t : List ℕ). own_lines b ++ own_lines (t ++ tail)) d.torn
      ∙ sym (own-append b tail);
  torn = torn-append a tail ∙ ap (λ (t : List ℕ). torn_part (t ++ tail)) d.torn ∙ sym (torn-append b tail);
}

pub differs-sealed : (a b : List ℕ) → DiffersInOtherLines a b → DiffersInOtherLines (sealed a) (sealed b)
differs-sealed a b d = subst (λ (t : Bool). DiffersInOtherLines (sealed a) (cond t b (b ++ seal_line))) (differs-whole a b d) (by (is_whole a))
  where
    by : (t : Bool) → DiffersInOtherLines (cond t a (a ++ seal_line)) (cond t b (b ++ seal_line))
    by true = d
    by false = differs-appended a b seal_line d

-- ---- insertions

none-own : (lines : List (List ℕ)) → All (λ (line : List ℕ). is_other_line line ≡ true) lines → own lines ≡ []
none-own [] all = refl
none-own (l ∷ lines) all =
    cond-false (not (is_other_line l)) _ _ (ap not (All-head (λ (line : List ℕ). is_other_line line ≡ true) l lines all))
    ∙ none-own lines (All-tail (λ (line : List ℕ). is_other_line line ≡ true) l lines all)

own-after : (front tail : List ℕ) → is_whole front ≡ true → own_lines (front ++ tail) ≡ own_lines front ++ own_lines tail
own-after front tail whole = ap own (lines_of-append front tail whole) ∙ filter-append (λ (line : List ℕ). not (is_other_line line)) (lines_of front) (lines_of tail)

pub differs-inserted : (front lines back : List ℕ) → is_whole front ≡ true → AreOtherLines lines → DiffersInOtherLines (front ++ back) (front ++ (lines ++ back))
differs-inserted front lines back whole others = record {
  lines = own-after front back whole
      ∙ ap (λ (l : List (List ℕ)). own_lines front ++ (l ++ own_lines back)) (sym (none-own (lines_of lines) others.other))
      ∙ ap (λ (l : List (List ℕ)). own_lines front ++ l) (sym (own-after lines back others.whole))
      ∙ sym (own-after front (lines ++ back) whole);
  torn = torn-after front back whole ∙ sym (torn-after front (lines ++ back) whole ∙ torn-after lines back others.whole);
}

pub differs-refused : (front line back : List ℕ) → is_whole front ≡ true → lines_of (line ++ 10 ∷ []) ≡ line ∷ [] → is_other_line line ≡ false → DiffersInOtherLines (front ++ back) (front ++ (line ++ 10 ∷ back)) → ⊥
differs-refused front line back whole one is d =
    let text : List ℕ = line ++ 10 ∷ [] in
    let first : own_lines text ≡ line ∷ [] = ap own one ∙ cond-true (not (is_other_line line)) _ _ (ap not is) in
    let inside : own_lines (text ++ back) ≡ line ∷ own_lines back = own-after text back (is_whole-push line) ∙ ap (λ (l : List (List ℕ)). l ++ own_lines back) first in
    let shorter : own_lines (front ++ back) ≡ own_lines front ++ own_lines back = own-after front back whole in
    let longer : own_lines (front ++ (line ++ 10 ∷ back)) ≡ own_lines front ++ line ∷ own_lines back =
    own-after front (line ++ 10 ∷ back) whole ∙ ap (λ (l : List ℕ). own_lines front ++ own_lines l) (sym (append_assoc line (10 ∷ []) back)) ∙ ap (λ (l : List (List ℕ)). own_lines front ++ l) inside in
    let same : own_lines front ++ own_lines back ≡ own_lines front ++ line ∷ own_lines back = sym shorter ∙ d.lines ∙ longer in
    let lengths : length (own_lines front ++ own_lines back) ≡ length (own_lines front ++ line ∷ own_lines back) = ap (λ (l : List (List ℕ)). length l) same in
    omega (arith, lengths, length-append (own_lines front) (own_lines back), length-append (own_lines front) (line ∷ own_lines back))

-- ---- which lines are other lines

own-line : (line : List ℕ) → (is_other_line line ≡ true → ⊥) → is_other_line line ≡ false
own-line line never = by (is_other_line line) never
  where
    by : (b : Bool) → (b ≡ true → ⊥) → b ≡ false
    by true wrong = absurd (wrong refl)
    by false wrong = refl

pub own-clock_line : (k : ClockKind) (t : ℕ) → 0 < t → t < 2 ^ 64 - 1 → is_other_line (prefix_of k ++ decimal t) ≡ false
own-clock_line k t some small = own-line (prefix_of k ++ decimal t) (λ is. let none = ((other-says (prefix_of k ++ decimal t) is).times k).0 in omega (arith, none, line_value-written k t small, some))

pub own-kept_clock_line : (k : ClockKind) (t : ℕ) → 0 < t → t < 2 ^ 64 - 1 → is_other_line (kept_clock_text k t) ≡ false
own-kept_clock_line k t some small = own-line (kept_clock_text k t) (λ is. let none = ((other-says (kept_clock_text k t) is).times k).0 in omega (arith, none, kept_value k t small, some))

pub own-min_line : (k : ClockKind) (t : ℕ) → 0 < t → t ≤ 2 ^ 64 - 1 → is_other_line (min_text k t) ≡ false
own-min_line k t some small = own-line (min_text k t) (λ is. let none = ((other-says (min_text k t) is).times k).1 in omega (arith, none, min_of_line-own k t small, some))

pub own-event_line : (t : ℕ) (name payload : List ℕ) → 0 < t → t < 2 ^ 64 - 1 → IsBytes name → IsBytes payload → is_other_line (event_text t name payload) ≡ false
own-event_line t name payload some small n p = own-line (event_text t name payload) (λ is. let no : Some (timed_event t name payload) ≡ None = sym (event_of_line-written t name payload some small n p) ∙ (other-says (event_text t name payload) is).no_event in absurd (cc no))

pub own-query_line : (t id : ℕ) → 0 < t → t < 2 ^ 64 - 1 → id < 2 ^ 32 → is_other_line (query_text t id) ≡ false
own-query_line t id some small low = own-line (query_text t id) (λ is. let no : Some (kept_query t id) ≡ None = sym (query_of_line-written t id some small low) ∙ (other-says (query_text t id) is).no_query in absurd (cc no))

pub others-written : (line : List ℕ) → lines_of (line ++ 10 ∷ []) ≡ line ∷ [] → is_other_line line ≡ true → AreOtherLines (line ++ 10 ∷ [])
others-written line one is = record { whole = is_whole-push line; other = all-one (λ (l : List ℕ). is_other_line l ≡ true) line one is }

pub others-both : (a b : List ℕ) → AreOtherLines a → AreOtherLines b → AreOtherLines (a ++ b)
others-both a b ha hb = record {
  whole = is_whole-append a b ha.whole hb.whole;
  other = all-joined (λ (l : List ℕ). is_other_line l ≡ true) a b ha.whole ha.other hb.other;
}

others-nothing : AreOtherLines []
others-nothing = record { whole = refl; other = All-nil (λ (l : List ℕ). is_other_line l ≡ true) }

others-opened : (o : OpenEvent) → AreOtherLines (lines_of_open o)
others-opened o = by o.has_begun
  where
    opened : AreOtherLines (open_line o.event.time o.event.name o.event.payload)
    opened = others-written (open_text o.event.time o.event.name o.event.payload) (lines_of-one _ (no_newline-event o.event.time o.event.name o.event.payload)) refl

    begun : AreOtherLines (begun_line o.event.time o.event.name o.event.payload)
    begun = others-written (begun_text o.event.time o.event.name o.event.payload) (lines_of-one _ (no_newline-event o.event.time o.event.name o.event.payload)) refl

    by : (b : Bool) → AreOtherLines (open_line o.event.time o.event.name o.event.payload ++ cond b (begun_line o.event.time o.event.name o.event.payload) [])
    by true = others-both (open_line o.event.time o.event.name o.event.payload) (begun_line o.event.time o.event.name o.event.payload) opened begun
    by false = others-both (open_line o.event.time o.event.name o.event.payload) [] opened others-nothing

pub others-open_lines : (open_list : List OpenEvent) → AreOtherLines (open_lines open_list)
others-open_lines [] = others-nothing
others-open_lines (o ∷ rest) = others-both (lines_of_open o) (open_lines rest) (others-opened o) (others-open_lines rest)
