-- What lines do to the text of a file that says which events are open.
use Rattle.serf_agent_c.proofs.Names.{Bool, List, [], All, All-append, All-cons, All-nil, All-tail, and_from, and_parts, ap, append-nil, append_assoc, arith, ClockKind, cond, drop, DiffersInOtherLines, EventBody, false, is_whole, not, refl, rules, seal_line, SnapshotView, subst, sym, TimedEntry, TimedEvent, true, ℕ, ◌&&◌, ◌++◌, ◌-◌, ◌<◌, ◌==◌, ◌^◌, ◌∙◌, ◌∷◌, ◌≡◌, ◌≢◌, clock_line, min_line, length, nat_le, take, true≢false, leb-true}
use Rattle.std.proofs.lemmas.Bool.{cond-false, cond-true, ne_eqb, not-true}
use Rattle.std.proofs.lemmas.Fmt.{digits_decimal}
use Rattle.std.proofs.lemmas.List.Folds.{list_any-append}
use Rattle.std.proofs.lemmas.Str.Parse.{IsNumeralModel, numerals_by_fold}
use Rattle.std.specs.Char.{is_ascii_digit}
use Rattle.std.specs.List.{list_any}
use Rattle.std.specs.Prelude.{codes, decimal, ◌||◌}
use Rattle.std.specs.Str.{all_ascii_digits}
use Rattle.serf_snapshot.specs.Clocks.{lines_of, onto_line, read_on, sealed}
use Rattle.serf_snapshot.specs.EventLines.{event_line, event_text, kept_clock_line, query_line}
use Rattle.serf_snapshot.specs.HandlerLaws.{Appends, AreSilent, AreUntracked, Begins, CanBeWritten, Compacts, Ends, EndsUpTo, FileStep, HandsOut, IsPossible, LeavesUntracked, NeverWaitsAgain, ReportsAll, StartsTracking, Stops, compacted_lines, open_after_all, open_after_step, open_lines, text_after, text_after_all}
use Rattle.serf_snapshot.specs.Handlers.{begun_line, begun_text, done_line, done_text, done_up_to_line, done_up_to_text, is_done_up_to, is_tracked, handler_line, mark_begun, mark_done, mark_done_up_to, open_after, open_after_lines, open_event, open_events, open_line, open_text, tracked_lines}
use Rattle.serf_snapshot.specs.KeptAppends.{kept_compaction_of}
use Rattle.serf_snapshot.specs.OtherLines.{AreOtherLines, is_other_line}
use Rattle.serf_snapshot.specs.declared.handlers.OpenEvent.{OpenEvent}
use Rattle.serf_agent_c.specs.TrackedHosts.{event_of_entry, mark_all_handed}
use Rattle.serf_agent_c.proofs.HandedOnce.{in-two}

-- what the crates below promise of the lines of handlers
pub record Handling : Type 0 where
  pub reports : ReportsAll
  pub starts : StartsTracking
  pub leaves : LeavesUntracked
  pub never : NeverWaitsAgain
  pub silent_clock_line : (k : ClockKind) (t : ℕ) → AreSilent (clock_line k t)
  pub silent_kept_clock_line : (k : ClockKind) (t : ℕ) → AreSilent (kept_clock_line k t)
  pub silent_min_line : (k : ClockKind) (t : ℕ) → AreSilent (min_line k t)
  pub silent_query_line : (t id : ℕ) → AreSilent (query_line t id)
  pub untracked_event : (t : ℕ) (name payload : List ℕ) → AreUntracked (event_line t name payload)
  pub untracked_query : (t id : ℕ) → AreUntracked (query_line t id)
  pub untracked_min_line : (k : ClockKind) (t : ℕ) → AreUntracked (min_line k t)
  pub untracked_both : (a b : List ℕ) → AreUntracked a → AreUntracked b → AreUntracked (a ++ b)
  pub untracked_compaction : (lines : List ℕ) (s : SnapshotView) → AreUntracked lines → AreUntracked (kept_compaction_of lines s)
  pub sealed_whole : (text : List ℕ) → is_whole (sealed text) ≡ true
  pub inserted : (front lines back : List ℕ) → is_whole front ≡ true → AreOtherLines lines → DiffersInOtherLines (front ++ back) (front ++ (lines ++ back))
  pub appended : (a b tail : List ℕ) → DiffersInOtherLines a b → DiffersInOtherLines (a ++ tail) (b ++ tail)
  pub itself : (a : List ℕ) → DiffersInOtherLines a a
  pub joined : (a b c : List ℕ) → DiffersInOtherLines a b → DiffersInOtherLines b c → DiffersInOtherLines a c
  pub other_done : (rest : List ℕ) → is_other_line (codes "#done " ++ rest) ≡ true
  pub other_written : (line : List ℕ) → lines_of (line ++ 10 ∷ []) ≡ line ∷ [] → is_other_line line ≡ true → AreOtherLines (line ++ 10 ∷ [])
  pub other_both : (a b : List ℕ) → AreOtherLines a → AreOtherLines b → AreOtherLines (a ++ b)
  pub other_open_lines : (open_list : List OpenEvent) → AreOtherLines (open_lines open_list)

-- ---- whole texts, and their lines

whole_has_line : (x : ℕ) (xs : List ℕ) → is_whole (x ∷ xs) ≡ true → (l : List ℕ) × (ls : List (List ℕ)) × (lines_of (x ∷ xs) ≡ l ∷ ls)
whole_has_line x [] h = ([], [], cond-true (x == 10) _ _ h)
whole_has_line x (y ∷ ys) h = step (x == 10) (whole_has_line y ys h)
  where
    step : (t : Bool) → (l : List ℕ) × (ls : List (List ℕ)) × (lines_of (y ∷ ys) ≡ l ∷ ls)
        → (l : List ℕ) × (ls : List (List ℕ)) × (cond t ([] ∷ lines_of (y ∷ ys)) (onto_line x (lines_of (y ∷ ys))) ≡ l ∷ ls)
    step true ih = ([], lines_of (y ∷ ys), refl)
    step false ih = (x ∷ ih.0, ih.1, ap (onto_line x) ih.2)

-- after a whole text, the lines continue
pub lines_of-append : (a b : List ℕ) → is_whole a ≡ true → lines_of (a ++ b) ≡ lines_of a ++ lines_of b
lines_of-append [] b h = refl
lines_of-append (x ∷ []) b h = cond-true (x == 10) _ _ h ∙ ap (λ (l : List (List ℕ)). l ++ lines_of b) (sym (cond-true (x == 10) _ _ h))
lines_of-append (x ∷ y ∷ a) b h = step (x == 10) (lines_of-append (y ∷ a) b h) (whole_has_line y a h)
  where
    onto : (ls ms : List (List ℕ)) → (l : List ℕ) × (r : List (List ℕ)) × (ls ≡ l ∷ r) → onto_line x (ls ++ ms) ≡ onto_line x ls ++ ms
    onto [] ms h = absurd (cc h.2)
    onto (l ∷ ls) ms h = refl

    step : (t : Bool) → lines_of ((y ∷ a) ++ b) ≡ lines_of (y ∷ a) ++ lines_of b → (l : List ℕ) × (ls : List (List ℕ)) × (lines_of (y ∷ a) ≡ l ∷ ls)
        → cond t ([] ∷ lines_of ((y ∷ a) ++ b)) (onto_line x (lines_of ((y ∷ a) ++ b))) ≡ cond t ([] ∷ lines_of (y ∷ a)) (onto_line x (lines_of (y ∷ a))) ++ lines_of b
    step true ih some = ap (λ (l : List (List ℕ)). [] ∷ l) ih
    step false ih some = ap (onto_line x) ih ∙ onto (lines_of (y ∷ a)) (lines_of b) some

pub is_whole-append : (a b : List ℕ) → is_whole a ≡ true → is_whole b ≡ true → is_whole (a ++ b) ≡ true
is_whole-append [] b ha hb = hb
is_whole-append (x ∷ []) [] ha hb = ha
is_whole-append (x ∷ []) (y ∷ b) ha hb = hb
is_whole-append (x ∷ y ∷ a) b ha hb = is_whole-append (y ∷ a) b ha hb

pub is_whole-push : (a : List ℕ) → is_whole (a ++ 10 ∷ []) ≡ true
is_whole-push [] = refl
is_whole-push (x ∷ []) = refl
is_whole-push (x ∷ y ∷ a) = is_whole-push (y ∷ a)

-- ---- a text that is tracked, with its open events

pub record Reads (text : List ℕ) (open_list : List OpenEvent) : Type 0 where
  pub whole : is_whole text ≡ true
  pub tracked : is_tracked text ≡ true
  pub is : open_events text ≡ open_list

or-left : (a b : Bool) → a ≡ true → (a || b) ≡ true
or-left true b h = refl
or-left false b h = absurd (true≢false (sym h))

pub tracked-more : (text tail : List ℕ) → is_whole text ≡ true → is_tracked text ≡ true → is_tracked (text ++ tail) ≡ true
tracked-more text tail whole tracked =
    ap (list_any is_done_up_to) (lines_of-append text tail whole)
    ∙ list_any-append is_done_up_to (lines_of text) (lines_of tail)
    ∙ or-left (list_any is_done_up_to (lines_of text)) (list_any is_done_up_to (lines_of tail)) tracked

pub open-append : (open_list : List OpenEvent) (a b : List (List ℕ)) → open_after_lines open_list (a ++ b) ≡ open_after_lines (open_after_lines open_list a) b
open-append open_list [] b = refl
open-append open_list (l ∷ a) b = open-append (open_after open_list (handler_line l)) a b

tracked-append : (a b : List (List ℕ)) → list_any is_done_up_to a ≡ true → tracked_lines (a ++ b) ≡ tracked_lines a ++ b
tracked-append [] b h = absurd (true≢false (sym h))
tracked-append (l ∷ a) b h = step (is_done_up_to l) h (tracked-append a b)
  where
    step : (t : Bool) → (t || list_any is_done_up_to a) ≡ true → (list_any is_done_up_to a ≡ true → tracked_lines (a ++ b) ≡ tracked_lines a ++ b) → cond t (a ++ b) (tracked_lines (a ++ b)) ≡ cond t a (tracked_lines a) ++ b
    step true some rest = refl
    step false some rest = rest some

-- what an opening reports on a text with a tail
pub open-joined : (text tail : List ℕ) (open_list : List OpenEvent) → Reads text open_list → open_events (text ++ tail) ≡ open_after_lines open_list (lines_of tail)
open-joined text tail open_list r =
    ap (λ (l : List (List ℕ)). open_after_lines [] (tracked_lines l)) (lines_of-append text tail r.whole)
    ∙ ap (open_after_lines []) (tracked-append (lines_of text) (lines_of tail) r.tracked)
    ∙ open-append [] (tracked_lines (lines_of text)) (lines_of tail)
    ∙ ap (λ (l : List OpenEvent). open_after_lines l (lines_of tail)) r.is

reads-line : (text lines : List ℕ) (open_list next : List OpenEvent) → Reads text open_list → is_whole lines ≡ true → (open_events (text ++ lines) ≡ next) → Reads (text ++ lines) next
reads-line text lines open_list next r whole is = record { whole = is_whole-append text lines r.whole whole; tracked = tracked-more text lines r.whole r.tracked; is = is }

one-step : (step : FileStep) → IsPossible step → All IsPossible (step ∷ [])
one-step step may = All-cons IsPossible step [] may (All-nil IsPossible)

pub reads-begun : Handling → (text : List ℕ) (open_list : List OpenEvent) (e : TimedEvent) → Reads text open_list → CanBeWritten e → Reads (text ++ begun_line e.time e.name e.payload) (mark_begun e open_list)
reads-begun laws text open_list e r can =
    reads-line text (begun_line e.time e.name e.payload) open_list (mark_begun e open_list) r (is_whole-push (begun_text e.time e.name e.payload))
    (laws.reports text (Begins e ∷ []) r.whole r.tracked (one-step (Begins e) can) ∙ ap (mark_begun e) r.is)

pub reads-done : Handling → (text : List ℕ) (open_list : List OpenEvent) (e : TimedEvent) → Reads text open_list → CanBeWritten e → Reads (text ++ done_line e.time e.name e.payload) (mark_done e open_list)
reads-done laws text open_list e r can =
    reads-line text (done_line e.time e.name e.payload) open_list (mark_done e open_list) r (is_whole-push (done_text e.time e.name e.payload))
    (laws.reports text (Ends e ∷ []) r.whole r.tracked (one-step (Ends e) can) ∙ ap (mark_done e) r.is)

pub reads-done_up_to : Handling → (text : List ℕ) (open_list : List OpenEvent) (time : ℕ) → Reads text open_list → time < 2 ^ 64 - 1 → Reads (text ++ done_up_to_line time) (mark_done_up_to time open_list)
reads-done_up_to laws text open_list time r small =
    reads-line text (done_up_to_line time) open_list (mark_done_up_to time open_list) r (is_whole-push (done_up_to_text time))
    (laws.reports text (EndsUpTo time ∷ []) r.whole r.tracked (one-step (EndsUpTo time) small) ∙ ap (mark_done_up_to time) r.is)

pub reads-silent : Handling → (text lines : List ℕ) (open_list : List OpenEvent) → Reads text open_list → AreSilent lines → Reads (text ++ lines) open_list
reads-silent laws text lines open_list r silent =
    reads-line text lines open_list open_list r silent.whole (laws.reports text (Appends lines ∷ []) r.whole r.tracked (one-step (Appends lines) silent) ∙ r.is)

-- a tail, with the seal of its last line if that is torn
pub reads-tail : Handling → (text tail : List ℕ) (open_list : List OpenEvent) → Reads text open_list → Reads (sealed (text ++ tail)) (open_after_lines open_list (lines_of tail))
reads-tail laws text tail open_list r = record {
  whole = laws.sealed_whole (text ++ tail);
  tracked = by (is_whole (text ++ tail));
  is = laws.reports text (Stops tail ∷ []) r.whole r.tracked (one-step (Stops tail) tt) ∙ ap (λ (l : List OpenEvent). open_after_lines l (lines_of tail)) r.is;
}
  where
    by : (b : Bool) → is_tracked (cond b (text ++ tail) ((text ++ tail) ++ seal_line)) ≡ true
    by true = tracked-more text tail r.whole r.tracked
    by false = ap is_tracked (append_assoc text tail seal_line) ∙ tracked-more text (tail ++ seal_line) r.whole r.tracked

pub reads-compacted : Handling → (text before : List ℕ) (time : ℕ) (open_list : List OpenEvent) (more : List ℕ) → Reads text open_list → is_whole before ≡ true → is_tracked before ≡ false → time < 2 ^ 64 - 1 → AreSilent more → Reads (compacted_lines before time open_list more) open_list
reads-compacted laws text before time open_list more r whole untracked small silent =
    let rest : List ℕ = open_lines open_list ++ more in
    let front : List ℕ = before ++ done_up_to_line time in
    let front_whole : is_whole front ≡ true = is_whole-append before (done_up_to_line time) whole (is_whole-push (done_up_to_text time)) in
    let same : front ++ rest ≡ compacted_lines before time open_list more = sym (append_assoc front (open_lines open_list) more) in
    record {
      whole = ap is_whole (sym same) ∙ is_whole-append front rest front_whole (is_whole-append (open_lines open_list) more (laws.other_open_lines open_list).whole silent.whole);
      tracked = ap is_tracked (sym same) ∙ tracked-more front rest front_whole (laws.starts before time whole untracked small).0;
      is = ap (λ (l : List OpenEvent). open_events (compacted_lines before time l more)) (sym r.is)
          ∙ laws.reports text (Compacts before time more ∷ []) r.whole r.tracked (one-step (Compacts before time more) (whole, untracked, small, silent))
          ∙ r.is;
    }

-- lines of an agent hand out no event by themselves unless a line `#done TIME` is above them
pub untracked-lines : Handling → (lines : List ℕ) → AreUntracked lines → is_tracked lines ≡ false
untracked-lines laws lines u = ap is_tracked (sym same) ∙ laws.leaves [] lines (length lines) refl u
  where
    all : (xs : List ℕ) → take (length xs) xs ≡ xs
    all [] = refl
    all (x ∷ xs) = ap (λ (l : List ℕ). x ∷ l) (all xs)

    same : sealed ([] ++ take (length lines) lines) ≡ lines
    same = ap sealed (all lines) ∙ cond-true (is_whole lines) _ _ u.whole

-- ---- lines by which exactly these events are handed out

pub record Hands (lines : List ℕ) (es : List (TimedEntry EventBody)) : Type 0 where
  pub steps : List FileStep
  pub possible : All IsPossible steps
  pub text : (front : List ℕ) → text_after_all front steps ≡ front ++ lines
  pub marks : (open_list : List OpenEvent) → open_after_all open_list steps ≡ mark_all_handed es open_list
  pub whole : is_whole lines ≡ true

pub hands-nothing : Hands [] []
hands-nothing = record { steps = []; possible = All-nil IsPossible; text = λ front. sym (append-nil front); marks = λ l. refl; whole = refl }

pub hands-silent : (lines : List ℕ) → AreSilent lines → Hands lines []
hands-silent lines silent = record { steps = Appends lines ∷ []; possible = one-step (Appends lines) silent; text = λ front. refl; marks = λ l. refl; whole = silent.whole }

pub hands-event : (e : TimedEntry EventBody) → CanBeWritten (event_of_entry e) → Hands (event_line e.time e.key.name e.key.payload) (e ∷ [])
hands-event e can = record { steps = HandsOut (event_of_entry e) ∷ []; possible = one-step (HandsOut (event_of_entry e)) can; text = λ front. refl; marks = λ l. refl; whole = is_whole-push (event_text e.time e.key.name e.key.payload) }

text-both : (front : List ℕ) (a b : List FileStep) → text_after_all front (a ++ b) ≡ text_after_all (text_after_all front a) b
text-both front [] b = refl
text-both front (s ∷ a) b = text-both (text_after front s) a b

open-both : (open_list : List OpenEvent) (a b : List FileStep) → open_after_all open_list (a ++ b) ≡ open_after_all (open_after_all open_list a) b
open-both open_list [] b = refl
open-both open_list (s ∷ a) b = open-both (open_after_step open_list s) a b

pub mark-both : (open_list : List OpenEvent) (es fs : List (TimedEntry EventBody)) → mark_all_handed (es ++ fs) open_list ≡ mark_all_handed fs (mark_all_handed es open_list)
mark-both open_list [] fs = refl
mark-both open_list (e ∷ es) fs = mark-both (mark_all_handed (e ∷ []) open_list) es fs

pub hands-both : (a b : List ℕ) (es fs : List (TimedEntry EventBody)) → Hands a es → Hands b fs → Hands (a ++ b) (es ++ fs)
hands-both a b es fs x y = record {
  steps = x.steps ++ y.steps;
  possible = All-append IsPossible x.steps y.steps x.possible y.possible;
  text = λ front. text-both front x.steps y.steps ∙ ap (λ (t : List ℕ). text_after_all t y.steps) (x.text front) ∙ y.text (front ++ a) ∙ append_assoc front a b;
  marks = λ l. open-both l x.steps y.steps ∙ ap (λ (m : List OpenEvent). open_after_all m y.steps) (x.marks l) ∙ y.marks (mark_all_handed es l) ∙ sym (mark-both l es fs);
  whole = is_whole-append a b x.whole y.whole;
}

pub reads-hands : Handling → (text lines : List ℕ) (open_list : List OpenEvent) (es : List (TimedEntry EventBody)) → Reads text open_list → Hands lines es → Reads (text ++ lines) (mark_all_handed es open_list)
reads-hands laws text lines open_list es r h =
    reads-line text lines open_list (mark_all_handed es open_list) r h.whole
    (ap open_events (sym (h.text text)) ∙ laws.reports text h.steps r.whole r.tracked h.possible ∙ h.marks (open_events text) ∙ ap (mark_all_handed es) r.is)

-- ---- a host's own lines are other lines

abbrev onto_all : List ℕ → List (List ℕ) → List (List ℕ)
onto_all [] ls = ls
onto_all (b ∷ bs) ls = onto_line b (onto_all bs ls)

onto-nil : (p : List ℕ) → onto_all p [] ≡ []
onto-nil [] = refl
onto-nil (b ∷ p) = ap (onto_line b) (onto-nil p)

onto-cons : (p l : List ℕ) (ls : List (List ℕ)) → onto_all p (l ∷ ls) ≡ (p ++ l) ∷ ls
onto-cons [] l ls = refl
onto-cons (b ∷ p) l ls = ap (onto_line b) (onto-cons p l ls)

abbrev IsOther : List ℕ → Type 0
IsOther line = is_other_line line ≡ true

other-prefix : (p q : List ℕ) (ls : List (List ℕ)) → ((rest : List ℕ) → IsOther (q ++ rest)) → All IsOther (onto_all p ls) → All IsOther (onto_all q ls)
other-prefix p q [] other all = subst (All IsOther) (sym (onto-nil q)) (All-nil IsOther)
other-prefix p q (l ∷ ls) other all =
    subst (All IsOther) (sym (onto-cons q l ls)) (All-cons IsOther (q ++ l) ls (other l) (All-tail IsOther (p ++ l) ls (subst (All IsOther) (onto-cons p l ls) all)))

pub other-begun : Handling → (e : TimedEvent) → AreOtherLines (begun_line e.time e.name e.payload)
other-begun laws e =
    let o : OpenEvent = open_event e true in
    let opened : List ℕ = open_line e.time e.name e.payload in
    let begun : List ℕ = begun_line e.time e.name e.payload in
    let all : All IsOther (lines_of ((opened ++ begun) ++ [])) = (laws.other_open_lines (o ∷ [])).other in
    let both : All IsOther (lines_of opened ++ lines_of begun) = subst (All IsOther) (ap lines_of (append-nil (opened ++ begun)) ∙ lines_of-append opened begun (is_whole-push (open_text e.time e.name e.payload))) all in
    record { whole = is_whole-push (begun_text e.time e.name e.payload); other = (in-two IsOther (lines_of opened) (lines_of begun) both).back }

pub other-done : Handling → (e : TimedEvent) → AreOtherLines (done_line e.time e.name e.payload)
other-done laws e = record { whole = is_whole-push (done_text e.time e.name e.payload); other = other-prefix (codes "#begun ") (codes "#done ") (lines_of (drop 6 (done_line e.time e.name e.payload))) laws.other_done (other-begun laws e).other }

abbrev has_no_newline : List ℕ → Bool
has_no_newline [] = true
has_no_newline (b ∷ bs) = not (b == 10) && has_no_newline bs

lines_of-one : (line : List ℕ) → has_no_newline line ≡ true → lines_of (line ++ 10 ∷ []) ≡ line ∷ []
lines_of-one [] h = refl
lines_of-one (b ∷ bs) h =
    let p = and_parts (not (b == 10)) (has_no_newline bs) h in
    cond-false (b == 10) _ _ (not-true (b == 10) p.0) ∙ ap (onto_line b) (lines_of-one bs p.1)

digits_no_newline : (ds : List ℕ) → all_ascii_digits ds ≡ true → has_no_newline ds ≡ true
digits_no_newline [] h = refl
digits_no_newline (d ∷ ds) h =
    let p = and_parts (is_ascii_digit d) (all_ascii_digits ds) h in
    let range = and_parts (nat_le 48 d) (nat_le d 57) p.0 in
    let far : d ≢ 10 = omega (arith, leb-true 48 d range.0) in
    and_from (not (d == 10)) (has_no_newline ds) (ap not (ne_eqb d 10 far)) (digits_no_newline ds p.1)

numerals : IsNumeralModel (λ ds. all_ascii_digits ds ≡ true) (read_on 0)
numerals = numerals_by_fold _ (search rules) read_on (search rules)

pub other-done_up_to : Handling → (time : ℕ) → time < 2 ^ 64 - 1 → AreOtherLines (done_up_to_line time)
other-done_up_to laws time small =
    laws.other_written (done_up_to_text time) (lines_of-one (done_up_to_text time) (digits_no_newline (decimal time) (digits_decimal numerals time (omega (arith, small))))) (laws.other_done (decimal time))

-- a host's own lines change nothing that the agent reads
pub differs-more : Handling → (a b lines : List ℕ) → DiffersInOtherLines a b → is_whole b ≡ true → AreOtherLines lines → DiffersInOtherLines a (b ++ lines)
differs-more laws a b lines d whole others =
    let more : DiffersInOtherLines b (b ++ lines) = subst (λ (x : List ℕ). DiffersInOtherLines x (b ++ lines)) (append-nil b) (subst (λ (x : List ℕ). DiffersInOtherLines (b ++ []) (b ++ x)) (append-nil lines) (laws.inserted b lines [] whole others)) in
    laws.joined a b (b ++ lines) d more

pub differs-compacted : Handling → (before : List ℕ) (time : ℕ) (open_list : List OpenEvent) (more : List ℕ) → is_whole before ≡ true → time < 2 ^ 64 - 1 → AreOtherLines more → DiffersInOtherLines before (compacted_lines before time open_list more)
differs-compacted laws before time open_list more whole small others =
    subst (DiffersInOtherLines before) (sym (append_assoc before (done_up_to_line time) (open_lines open_list ++ more)) ∙ sym (append_assoc (before ++ done_up_to_line time) (open_lines open_list) more))
    (differs-more laws before before (done_up_to_line time ++ (open_lines open_list ++ more)) (laws.itself before) whole
    (laws.other_both (done_up_to_line time) (open_lines open_list ++ more) (other-done_up_to laws time small) (laws.other_both (open_lines open_list) more (laws.other_open_lines open_list) others)))
