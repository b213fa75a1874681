-- What each operation on a file does to the events that are open in it.
use Rattle.serf_snapshot.proofs.Names.{Bool, IfSome, List, None, Option, Some, [], All, All-append, All-cons, All-head, All-nil, All-tail, and_from, and_left, and_parts, and_right, ap, append_assoc, arith, cond, cond-false, cond-true, false, not, not-true, refl, subst, sym, true, ℕ, ◌&&◌, ◌++◌, ◌-◌, ◌<◌, ◌==◌, ◌^◌, ◌∙◌, ◌∷◌, ◌≡◌, codes, decimal, digits_value-decimal, event_line, event_of_line, event_text, following, is_whole, lines_of, option_map, sealed, slice_split_none, event_from_parts, all_ascii_digits, is_empty, TimedEvent}
use Rattle.std.proofs.lemmas.Bool.{true≢false}
use Rattle.std.proofs.lemmas.List.{map-append}
use Rattle.std.proofs.lemmas.List.Folds.{list_any-append}
use Rattle.std.proofs.lemmas.List.Elements.{All-filter, All-map, All-weaker}
use Rattle.std.specs.List.{filter, list_any}
use Rattle.std.specs.Prelude.{is_some, nat_lt, ◌||◌}
use Rattle.serf_snapshot.specs.Handlers.{begun_line, begun_of_line, begun_text, done_line, done_of_line, done_text, done_up_to_line, done_up_to_of_line, done_up_to_text, first_of, handed_of_line, handler_line, is_done_up_to, is_open, is_tracked, mark_begun, mark_begun_if, mark_handed, open_after, open_after_lines, open_event, open_events, open_line, open_of_line, open_text, same_event, time_of_text, tracked_lines}
use Rattle.serf_snapshot.specs.HandlerLaws.{Appends, AreSilent, Begins, CanBeWritten, Compacts, Ends, EndsUpTo, FileStep, HandsOut, IsPossible, Opens, ReportsAll, StartsTracking, Stops, compacted_lines, lines_of_open, open_after_all, open_after_step, open_lines, text_after}
use Rattle.serf_snapshot.specs.declared.handlers.HandlerLine.{HandlerLine}
use Rattle.serf_snapshot.specs.declared.handlers.HandlerLine.TheVariants.{Begun, Done, DoneUpTo, Delivered}
use Rattle.serf_snapshot.specs.declared.handlers.OpenEvent.{OpenEvent}
use Rattle.serf_snapshot.proofs.ClockLaws.{decimal_is_time, digits_end, has_no_newline, is_whole-push, is_whole-sealed, lines_of-append, lines_of-one, own, torn_line}
use Rattle.serf_snapshot.proofs.EventLineLaws.{decimal_no_blank, event_after-sealed, event_of_line-sealed, event_of_line-written, no_newline-decimal, no_newline-event, no_space-blank}
use Rattle.serf_snapshot.proofs.HandlerLaws.{handler_line-begun, handler_line-handed, handler_line-opened, no_newline-begun, open-append, open-joined, same-itself, tracked-append, untracked-append}
use Rattle.serf_snapshot.proofs.KeptAppendLineLaws.{is_whole-append}
use Rattle.serf_snapshot.proofs.ReadLaws.{IsEvent, event-following}
use Rattle.serf_snapshot.proofs.SayLaws.{append_nil, hash_after-sealed}

-- ---- one more line

open-line : (text l : List ℕ) → is_whole text ≡ true → is_tracked text ≡ true → has_no_newline l ≡ true → open_events (text ++ (l ++ 10 ∷ [])) ≡ open_after (open_events text) (handler_line l)
open-line text l whole tracked one = open-joined text (l ++ 10 ∷ []) whole tracked ∙ ap (open_after_lines (open_events text)) (lines_of-one l one)

open-said : (text l : List ℕ) (said : HandlerLine) → is_whole text ≡ true → is_tracked text ≡ true → has_no_newline l ≡ true → handler_line l ≡ Some said → open_events (text ++ (l ++ 10 ∷ [])) ≡ open_after (open_events text) (Some said)
open-said text l said whole tracked one is = open-line text l whole tracked one ∙ ap (open_after (open_events text)) is

handler_line-done : (e : TimedEvent) → CanBeWritten e → handler_line (done_text e.time e.name e.payload) ≡ Some (Done e)
handler_line-done e can =
    let line : List ℕ = done_text e.time e.name e.payload in
    ap (λ (o : Option TimedEvent). first_of (option_map Done o) (option_map DoneUpTo (done_up_to_of_line line)))
    (event_of_line-written e.time e.name e.payload can.some can.small can.name can.payload)

done_up_to_of_line-written : (time : ℕ) → time < 2 ^ 64 - 1 → done_up_to_of_line (done_up_to_text time) ≡ Some time
done_up_to_of_line-written time small =
    let low : time < 2 ^ 64 = omega arith in
    cond-true _ _ _ (decimal_is_time time small) ∙ ap (λ (n : ℕ). Some n) (digits_value-decimal own time low)

done_of_line-time : (time : ℕ) → done_of_line (done_up_to_text time) ≡ None
done_of_line-time time = ap event_from_parts (slice_split_none (λ (b : ℕ). b == 32) (decimal time) (no_space-blank (decimal time) (decimal_no_blank time)))

handler_line-done_up_to : (time : ℕ) → time < 2 ^ 64 - 1 → handler_line (done_up_to_text time) ≡ Some (DoneUpTo time)
handler_line-done_up_to time small =
    ap (λ (o : Option TimedEvent). first_of (option_map Done o) (option_map DoneUpTo (done_up_to_of_line (done_up_to_text time)))) (done_of_line-time time)
    ∙ ap (λ (o : Option ℕ). option_map DoneUpTo o) (done_up_to_of_line-written time small)

no_newline-done : (t : ℕ) (name payload : List ℕ) → has_no_newline (done_text t name payload) ≡ true
no_newline-done t name payload = no_newline-event t name payload

no_newline-done_up_to : (t : ℕ) → has_no_newline (done_up_to_text t) ≡ true
no_newline-done_up_to t = no_newline-decimal t

-- ---- a sealed line says nothing

time-sealed : (v : List ℕ) → time_of_text (Some (v ++ 35 ∷ [])) ≡ None
time-sealed v = cond-false _ _ _ (and_right (not (is_empty (v ++ 35 ∷ []))) _ (and_left (all_ascii_digits (v ++ 35 ∷ [])) _ (digits_end v)))

pub done_up_to-sealed : (u : List ℕ) → done_up_to_of_line (u ++ 35 ∷ []) ≡ None
done_up_to-sealed u = hash_after-sealed None time_of_text refl time-sealed 100 (111 ∷ 110 ∷ 101 ∷ 32 ∷ []) u refl

handler_line-sealed : (u : List ℕ) → handler_line (u ++ 35 ∷ []) ≡ None
handler_line-sealed u =
    let line : List ℕ = u ++ 35 ∷ [] in
    ap (λ (o : Option TimedEvent). first_of (option_map Delivered (first_of o (open_of_line line))) (first_of (option_map Begun (begun_of_line line)) (first_of (option_map Done (done_of_line line)) (option_map DoneUpTo (done_up_to_of_line line))))) (event_of_line-sealed u)
    ∙ ap (λ (o : Option TimedEvent). first_of (option_map Delivered o) (first_of (option_map Begun (begun_of_line line)) (first_of (option_map Done (done_of_line line)) (option_map DoneUpTo (done_up_to_of_line line))))) (event_after-sealed 111 (112 ∷ 101 ∷ 110 ∷ 32 ∷ []) u refl)
    ∙ ap (λ (o : Option TimedEvent). first_of (option_map Begun o) (first_of (option_map Done (done_of_line line)) (option_map DoneUpTo (done_up_to_of_line line)))) (event_after-sealed 98 (101 ∷ 103 ∷ 117 ∷ 110 ∷ 32 ∷ []) u refl)
    ∙ ap (λ (o : Option TimedEvent). first_of (option_map Done o) (option_map DoneUpTo (done_up_to_of_line line))) (event_after-sealed 100 (111 ∷ 110 ∷ 101 ∷ 32 ∷ []) u refl)
    ∙ ap (λ (o : Option ℕ). option_map DoneUpTo o) (done_up_to-sealed u)

open-sealed : (text : List ℕ) → is_tracked text ≡ true → open_events (sealed text) ≡ open_events text
open-sealed text tracked = step (is_whole text) refl
  where
    step : (t : Bool) → is_whole text ≡ t → open_events (cond t text (text ++ 35 ∷ 10 ∷ [])) ≡ open_events text
    step true e = refl
    step false e =
        let torn = torn_line text e in
        ap (λ (l : List (List ℕ)). open_after_lines [] (tracked_lines l)) torn.1
        ∙ ap (open_after_lines []) (tracked-append (lines_of text) ((torn.0 ++ 35 ∷ []) ∷ []) tracked)
        ∙ open-append [] (tracked_lines (lines_of text)) ((torn.0 ++ 35 ∷ []) ∷ [])
        ∙ ap (open_after (open_events text)) (handler_line-sealed torn.0)

-- ---- a tracked text stays tracked

or-left : (a b : Bool) → a ≡ true → (a || b) ≡ true
or-left true b h = refl
or-left false b h = absurd (true≢false (sym h))

tracked-lines_more : (a b : List (List ℕ)) → list_any is_done_up_to a ≡ true → list_any is_done_up_to (a ++ b) ≡ true
tracked-lines_more a b h = list_any-append is_done_up_to a b ∙ or-left (list_any is_done_up_to a) (list_any is_done_up_to b) h

tracked-more : (text tail : List ℕ) → is_whole text ≡ true → is_tracked text ≡ true → is_tracked (text ++ tail) ≡ true
tracked-more text tail whole tracked = ap (list_any is_done_up_to) (lines_of-append text tail whole) ∙ tracked-lines_more (lines_of text) (lines_of tail) tracked

tracked-sealed : (text : List ℕ) → is_tracked text ≡ true → is_tracked (sealed text) ≡ true
tracked-sealed text tracked = step (is_whole text) refl
  where
    step : (t : Bool) → is_whole text ≡ t → is_tracked (cond t text (text ++ 35 ∷ 10 ∷ [])) ≡ true
    step true e = tracked
    step false e = let torn = torn_line text e in ap (list_any is_done_up_to) torn.1 ∙ tracked-lines_more (lines_of text) ((torn.0 ++ 35 ∷ []) ∷ []) tracked

-- ---- lines that say nothing

says-nothing : (open_list : List OpenEvent) (lines : List (List ℕ)) → All (λ (l : List ℕ). handler_line l ≡ None) lines → open_after_lines open_list lines ≡ open_list
says-nothing open_list [] none = refl
says-nothing open_list (l ∷ lines) none =
    ap (λ (said : Option HandlerLine). open_after_lines (open_after open_list said) lines) (All-head (λ (l : List ℕ). handler_line l ≡ None) l lines none)
    ∙ says-nothing open_list lines (All-tail (λ (l : List ℕ). handler_line l ≡ None) l lines none)

-- ---- an event is open once

-- no event of the second list is in the first, or twice in the second
abbrev fits : List OpenEvent → List OpenEvent → Bool
fits front [] = true
fits front (o ∷ rest) = not (is_open o.event front) && fits (front ++ o ∷ []) rest

open-push : (e : TimedEvent) (front : List OpenEvent) (o : OpenEvent) → is_open e (front ++ o ∷ []) ≡ (is_open e front || (same_event e o.event || false))
open-push e front o = list_any-append (λ (x : OpenEvent). same_event e x.event) front (o ∷ [])

abbrev Within : List OpenEvent → List OpenEvent → Type 0
Within less more = (e : TimedEvent) → is_open e more ≡ false → is_open e less ≡ false

or-parts : (a b : Bool) → (a || b) ≡ false → (a ≡ false) × (b ≡ false)
or-parts true b h = absurd (true≢false h)
or-parts false b h = (refl, h)

or-from : (a b : Bool) → a ≡ false → b ≡ false → (a || b) ≡ false
or-from true b ha hb = absurd (true≢false ha)
or-from false b ha hb = hb

within-push : (less more : List OpenEvent) (o : OpenEvent) → Within less more → Within (less ++ o ∷ []) (more ++ o ∷ [])
within-push less more o h e none =
    let p = or-parts (is_open e more) (same_event e o.event || false) (sym (open-push e more o) ∙ none) in
    open-push e less o ∙ or-from (is_open e less) (same_event e o.event || false) (h e p.0) p.1

within-more : (less more : List OpenEvent) (o : OpenEvent) → Within less more → Within less (more ++ o ∷ [])
within-more less more o h e none = h e (or-parts (is_open e more) (same_event e o.event || false) (sym (open-push e more o) ∙ none)).0

fits-filter : (p : OpenEvent → Bool) (less more open_list : List OpenEvent) → Within less more → fits more open_list ≡ true → fits less (filter p open_list) ≡ true
fits-filter p less more [] h fit = refl
fits-filter p less more (o ∷ rest) h fit =
    let parts = and_parts (not (is_open o.event more)) (fits (more ++ o ∷ []) rest) fit in
    step (p o) parts.0 (fits-filter p (less ++ o ∷ []) (more ++ o ∷ []) rest (within-push less more o h) parts.1) (fits-filter p less (more ++ o ∷ []) rest (within-more less more o h) parts.1)
  where
    step : (b : Bool) → not (is_open o.event more) ≡ true → fits (less ++ o ∷ []) (filter p rest) ≡ true → fits less (filter p rest) ≡ true → fits less (cond b (o ∷ filter p rest) (filter p rest)) ≡ true
    step true new taken left = and_from _ _ (ap not (h o.event (not-true (is_open o.event more) new))) taken
    step false new taken left = left

event-begun : (d : TimedEvent) (o : OpenEvent) → (mark_begun_if d o).event ≡ o.event
event-begun d o = step (same_event d o.event)
  where
    step : (b : Bool) → (cond b (open_event o.event true) o).event ≡ o.event
    step true = refl
    step false = refl

open-begun : (d e : TimedEvent) (open_list : List OpenEvent) → is_open e (mark_begun d open_list) ≡ is_open e open_list
open-begun d e [] = refl
open-begun d e (o ∷ rest) =
    ap (λ (x : TimedEvent). same_event e x || is_open e (mark_begun d rest)) (event-begun d o)
    ∙ ap (λ (b : Bool). same_event e o.event || b) (open-begun d e rest)

fits-begun : (d : TimedEvent) (front open_list : List OpenEvent) → fits front open_list ≡ true → fits (mark_begun d front) (mark_begun d open_list) ≡ true
fits-begun d front [] fit = refl
fits-begun d front (o ∷ rest) fit =
    let parts = and_parts (not (is_open o.event front)) (fits (front ++ o ∷ []) rest) fit in
    and_from _ _
    (ap (λ (x : TimedEvent). not (is_open x (mark_begun d front))) (event-begun d o) ∙ ap not (open-begun d o.event front) ∙ parts.0)
    (ap (λ (x : List OpenEvent). fits x (mark_begun d rest)) (sym (map-append (mark_begun_if d) front (o ∷ []))) ∙ fits-begun d (front ++ o ∷ []) rest parts.1)

fits-push : (front open_list : List OpenEvent) (o : OpenEvent) → fits front open_list ≡ true → is_open o.event (front ++ open_list) ≡ false → fits front (open_list ++ o ∷ []) ≡ true
fits-push front [] o fit new = and_from _ _ (ap not (ap (is_open o.event) (sym (append_nil front)) ∙ new)) refl
fits-push front (x ∷ rest) o fit new =
    let parts = and_parts (not (is_open x.event front)) (fits (front ++ x ∷ []) rest) fit in
    and_from _ _ parts.0 (fits-push (front ++ x ∷ []) rest o parts.1 (ap (is_open o.event) (append_assoc front (x ∷ []) rest) ∙ new))

fits-after : (open_list : List OpenEvent) (said : Option HandlerLine) → fits [] open_list ≡ true → fits [] (open_after open_list said) ≡ true
fits-after open_list None fit = fit
fits-after open_list (Some (Delivered e)) fit = step (is_open e open_list) refl
  where
    step : (b : Bool) → is_open e open_list ≡ b → fits [] (cond b open_list (open_list ++ open_event e false ∷ [])) ≡ true
    step true is = fit
    step false is = fits-push [] open_list (open_event e false) fit is
fits-after open_list (Some (Begun e)) fit = fits-begun e [] open_list fit
fits-after open_list (Some (Done e)) fit = fits-filter (λ (o : OpenEvent). not (same_event e o.event)) [] [] open_list (λ d h. h) fit
fits-after open_list (Some (DoneUpTo t)) fit = fits-filter (λ (o : OpenEvent). nat_lt t o.event.time) [] [] open_list (λ d h. h) fit

fits-lines : (open_list : List OpenEvent) (lines : List (List ℕ)) → fits [] open_list ≡ true → fits [] (open_after_lines open_list lines) ≡ true
fits-lines open_list [] fit = fit
fits-lines open_list (l ∷ lines) fit = fits-lines (open_after open_list (handler_line l)) lines (fits-after open_list (handler_line l) fit)

-- ---- an open event can be written

abbrev CanWrite : OpenEvent → Type 0
CanWrite o = CanBeWritten o.event

abbrev CanSay : Option HandlerLine → Type 0
CanSay None = Unit {0}
CanSay (Some (Delivered e)) = CanBeWritten e
CanSay (Some (Begun e)) = Unit {0}
CanSay (Some (Done e)) = Unit {0}
CanSay (Some (DoneUpTo t)) = Unit {0}

rest-says : (c d : Option TimedEvent) (t : Option ℕ) → CanSay (first_of (option_map Begun c) (first_of (option_map Done d) (option_map DoneUpTo t)))
rest-says (Some e) d t = tt
rest-says None (Some e) t = tt
rest-says None None (Some t) = tt
rest-says None None None = tt

first-is_event : (a b : Option TimedEvent) → IfSome a IsEvent → IfSome b IsEvent → IfSome (first_of a b) IsEvent
first-is_event None b ha hb = hb
first-is_event (Some e) b ha hb = ha

says-possible : (line : List ℕ) → CanSay (handler_line line)
says-possible line = by (handed_of_line line) (first-is_event (event_of_line line) (open_of_line line) (event-following (following (codes "#event ") line)) (event-following (following (codes "#open ") line)))
  where
    by : (o : Option TimedEvent) → IfSome o IsEvent → CanSay (first_of (option_map Delivered o) (first_of (option_map Begun (begun_of_line line)) (first_of (option_map Done (done_of_line line)) (option_map DoneUpTo (done_up_to_of_line line)))))
    by None h = rest-says (begun_of_line line) (done_of_line line) (done_up_to_of_line line)
    by (Some e) h = record { some = h.0; small = h.1; name = h.2; payload = h.3 }

writes-begun : (d : TimedEvent) (o : OpenEvent) → CanWrite o → CanWrite (mark_begun_if d o)
writes-begun d o can = subst CanBeWritten (sym (event-begun d o)) can

writes-after : (open_list : List OpenEvent) (said : Option HandlerLine) → CanSay said → All CanWrite open_list → All CanWrite (open_after open_list said)
writes-after open_list None say can = can
writes-after open_list (Some (Delivered e)) say can = step (is_open e open_list)
  where
    step : (b : Bool) → All CanWrite (cond b open_list (open_list ++ open_event e false ∷ []))
    step true = can
    step false = All-append CanWrite open_list (open_event e false ∷ []) can (All-cons CanWrite (open_event e false) [] say (All-nil CanWrite))
writes-after open_list (Some (Begun e)) say can = All-map CanWrite (mark_begun_if e) open_list (All-weaker CanWrite (λ (o : OpenEvent). CanWrite (mark_begun_if e o)) (writes-begun e) open_list can)
writes-after open_list (Some (Done e)) say can = All-filter (λ (o : OpenEvent). not (same_event e o.event)) CanWrite open_list can
writes-after open_list (Some (DoneUpTo t)) say can = All-filter (λ (o : OpenEvent). nat_lt t o.event.time) CanWrite open_list can

writes-lines : (open_list : List OpenEvent) (lines : List (List ℕ)) → All CanWrite open_list → All CanWrite (open_after_lines open_list lines)
writes-lines open_list [] can = can
writes-lines open_list (l ∷ lines) can = writes-lines (open_after open_list (handler_line l)) lines (writes-after open_list (handler_line l) (says-possible l) can)

-- ---- a compaction reads back

none-begun : (e : TimedEvent) (open_list : List OpenEvent) → is_open e open_list ≡ false → mark_begun e open_list ≡ open_list
none-begun e [] new = refl
none-begun e (o ∷ rest) new = step (same_event e o.event) new (none-begun e rest)
  where
    step : (b : Bool) → (b || is_open e rest) ≡ false → (is_open e rest ≡ false → mark_begun e rest ≡ rest) → cond b (open_event o.event true) o ∷ mark_begun e rest ≡ o ∷ rest
    step true some others = absurd (true≢false some)
    step false none others = ap (λ (l : List OpenEvent). o ∷ l) (others none)

begins-last : (e : TimedEvent) (front : List OpenEvent) → is_open e front ≡ false → mark_begun e (front ++ open_event e false ∷ []) ≡ front ++ open_event e true ∷ []
begins-last e front new =
    map-append (mark_begun_if e) front (open_event e false ∷ [])
    ∙ ap (λ (l : List OpenEvent). l ++ mark_begun_if e (open_event e false) ∷ []) (none-begun e front new)
    ∙ ap (λ (o : OpenEvent). front ++ o ∷ []) (cond-true (same_event e e) _ _ (same-itself e))

is_whole-line : (text l : List ℕ) → is_whole (text ++ (l ++ 10 ∷ [])) ≡ true
is_whole-line text l = ap is_whole (sym (append_assoc text l (10 ∷ []))) ∙ is_whole-push (text ++ l)

-- after the lines of one open event, this event is the last of the list
abbrev Read : List ℕ → List OpenEvent → Type 0
Read text open_list = (is_whole text ≡ true) × (is_tracked text ≡ true) × (open_events text ≡ open_list)

read-opened : (text : List ℕ) (front : List OpenEvent) (e : TimedEvent) → Read text front → CanBeWritten e → is_open e front ≡ false → Read (text ++ open_line e.time e.name e.payload) (front ++ open_event e false ∷ [])
read-opened text front e r can new = (
  is_whole-line text (open_text e.time e.name e.payload),
  tracked-more text (open_line e.time e.name e.payload) r.0 r.1,
  open-said text (open_text e.time e.name e.payload) (Delivered e) r.0 r.1 (no_newline-event e.time e.name e.payload) (handler_line-opened e can)
      ∙ ap (mark_handed e) r.2
      ∙ cond-false (is_open e front) _ _ new,
)

read-begun : (text : List ℕ) (front : List OpenEvent) (e : TimedEvent) → Read text (front ++ open_event e false ∷ []) → CanBeWritten e → is_open e front ≡ false → Read (text ++ begun_line e.time e.name e.payload) (front ++ open_event e true ∷ [])
read-begun text front e r can new = (
  is_whole-line text (begun_text e.time e.name e.payload),
  tracked-more text (begun_line e.time e.name e.payload) r.0 r.1,
  open-said text (begun_text e.time e.name e.payload) (Begun e) r.0 r.1 (no_newline-begun e.time e.name e.payload) (handler_line-begun e can)
      ∙ ap (mark_begun e) r.2
      ∙ begins-last e front new,
)

read-one : (text : List ℕ) (front : List OpenEvent) (e : TimedEvent) (b : Bool) → Read text front → CanBeWritten e → is_open e front ≡ false
    → Read (text ++ (open_line e.time e.name e.payload ++ cond b (begun_line e.time e.name e.payload) [])) (front ++ open_event e b ∷ [])
read-one text front e true r can new =
    subst (λ (t : List ℕ). Read t (front ++ open_event e true ∷ [])) (append_assoc text (open_line e.time e.name e.payload) (begun_line e.time e.name e.payload))
    (read-begun (text ++ open_line e.time e.name e.payload) front e (read-opened text front e r can new) can new)
read-one text front e false r can new =
    subst (λ (t : List ℕ). Read (text ++ t) (front ++ open_event e false ∷ [])) (sym (append_nil (open_line e.time e.name e.payload)))
    (read-opened text front e r can new)

read-back : (text : List ℕ) (front open_list : List OpenEvent) → Read text front → fits front open_list ≡ true → All CanWrite open_list → Read (text ++ open_lines open_list) (front ++ open_list)
read-back text front [] r fit can = subst (λ (t : List ℕ). Read t (front ++ [])) (sym (append_nil text)) (subst (Read text) (sym (append_nil front)) r)
read-back text front (o ∷ rest) r fit can =
    let parts = and_parts (not (is_open o.event front)) (fits (front ++ o ∷ []) rest) fit in
    let one : Read (text ++ lines_of_open o) (front ++ o ∷ []) = read-one text front o.event o.has_begun r (All-head CanWrite o rest can) (not-true (is_open o.event front) parts.0) in
    subst (λ (t : List ℕ). Read t (front ++ o ∷ rest)) (append_assoc text (lines_of_open o) (open_lines rest))
    (subst (Read ((text ++ lines_of_open o) ++ open_lines rest)) (append_assoc front (o ∷ []) rest)
    (read-back (text ++ lines_of_open o) (front ++ o ∷ []) rest one parts.1 (All-tail CanWrite o rest can)))

-- after the first line `#done TIME`, nothing is open
starts : (held : List ℕ) (time : ℕ) → is_whole held ≡ true → is_tracked held ≡ false → time < 2 ^ 64 - 1 → Read (held ++ done_up_to_line time) []
starts held time whole untracked small =
    let l : List ℕ = done_up_to_text time in
    let lines : lines_of (held ++ (l ++ 10 ∷ [])) ≡ lines_of held ++ l ∷ [] = lines_of-append held (l ++ 10 ∷ []) whole ∙ ap (λ (x : List (List ℕ)). lines_of held ++ x) (lines_of-one l (no_newline-done_up_to time)) in
    let marks : is_done_up_to l ≡ true = ap (λ (o : Option ℕ). is_some o) (done_up_to_of_line-written time small) in (
      is_whole-line held l,
      ap (list_any is_done_up_to) lines ∙ list_any-append is_done_up_to (lines_of held) (l ∷ []) ∙ ap (λ (b : Bool). b || (is_done_up_to l || false)) untracked ∙ ap (λ (b : Bool). b || false) marks,
      ap (λ (x : List (List ℕ)). open_after_lines [] (tracked_lines x)) lines
          ∙ ap (open_after_lines []) (untracked-append (lines_of held) (l ∷ []) untracked)
          ∙ ap (open_after_lines []) (cond-true (is_done_up_to l) _ _ marks),
    )

-- lines that say nothing of handlers change nothing
read-silent : (text lines : List ℕ) (open_list : List OpenEvent) → Read text open_list → AreSilent lines → Read (text ++ lines) open_list
read-silent text lines open_list r may = (
  is_whole-append text lines r.0 may.whole,
  tracked-more text lines r.0 r.1,
  open-joined text lines r.0 r.1 ∙ says-nothing (open_events text) (lines_of lines) may.silent ∙ r.2,
)

compacted-read : (before : List ℕ) (time : ℕ) (open_list : List OpenEvent) (more : List ℕ) → is_whole before ≡ true → is_tracked before ≡ false → time < 2 ^ 64 - 1 → AreSilent more → fits [] open_list ≡ true → All CanWrite open_list → Read (compacted_lines before time open_list more) open_list
compacted-read before time open_list more whole untracked small silent fit can =
    let front : List ℕ = before ++ done_up_to_line time in
    read-silent (front ++ open_lines open_list) more open_list (read-back front [] open_list (starts before time whole untracked small) fit can) silent

-- ---- all operations

step-read : (text : List ℕ) (step : FileStep) → is_whole text ≡ true → is_tracked text ≡ true → IsPossible step → Read (text_after text step) (open_after_step (open_events text) step)
step-read text (HandsOut e) whole tracked can = (
  is_whole-line text (event_text e.time e.name e.payload),
  tracked-more text (event_line e.time e.name e.payload) whole tracked,
  open-said text (event_text e.time e.name e.payload) (Delivered e) whole tracked (no_newline-event e.time e.name e.payload) (handler_line-handed e can),
)
step-read text (Opens e) whole tracked can = (
  is_whole-line text (open_text e.time e.name e.payload),
  tracked-more text (open_line e.time e.name e.payload) whole tracked,
  open-said text (open_text e.time e.name e.payload) (Delivered e) whole tracked (no_newline-event e.time e.name e.payload) (handler_line-opened e can),
)
step-read text (Begins e) whole tracked can = (
  is_whole-line text (begun_text e.time e.name e.payload),
  tracked-more text (begun_line e.time e.name e.payload) whole tracked,
  open-said text (begun_text e.time e.name e.payload) (Begun e) whole tracked (no_newline-begun e.time e.name e.payload) (handler_line-begun e can),
)
step-read text (Ends e) whole tracked can = (
  is_whole-line text (done_text e.time e.name e.payload),
  tracked-more text (done_line e.time e.name e.payload) whole tracked,
  open-said text (done_text e.time e.name e.payload) (Done e) whole tracked (no_newline-done e.time e.name e.payload) (handler_line-done e can),
)
step-read text (EndsUpTo time) whole tracked small = (
  is_whole-line text (done_up_to_text time),
  tracked-more text (done_up_to_line time) whole tracked,
  open-said text (done_up_to_text time) (DoneUpTo time) whole tracked (no_newline-done_up_to time) (handler_line-done_up_to time small),
)
step-read text (Appends lines) whole tracked may = read-silent text lines (open_events text) (whole, tracked, refl) may
step-read text (Compacts before time more) whole tracked may =
    compacted-read before time (open_events text) more may.0 may.1 may.2 may.3 (fits-lines [] (tracked_lines (lines_of text)) refl) (writes-lines [] (tracked_lines (lines_of text)) (All-nil CanWrite))
step-read text (Stops tail) whole tracked may =
    let more : is_tracked (text ++ tail) ≡ true = tracked-more text tail whole tracked in
    (is_whole-sealed (text ++ tail), tracked-sealed (text ++ tail) more, open-sealed (text ++ tail) more ∙ open-joined text tail whole tracked)

pub reports-all : ReportsAll
reports-all text [] whole tracked may = refl
reports-all text (step ∷ steps) whole tracked may =
    let r = step-read text step whole tracked (All-head IsPossible step steps may) in
    reports-all (text_after text step) steps r.0 r.1 (All-tail IsPossible step steps may)
    ∙ ap (λ (o : List OpenEvent). open_after_all o steps) r.2

pub starts-tracking : StartsTracking
starts-tracking text time whole untracked small = let r = starts text time whole untracked small in (r.1, r.2)
