-- What an agent's own lines say of handlers, and of whether a text is tracked.
use Rattle.serf_snapshot.proofs.Names.{All, All-append, All-cons, All-head, All-nil, All-tail, Bool, List, None, [], ap, codes, cond, drop, false, refl, subst, sym, take, take-append-drop, true, ℕ, ◌++◌, ◌==◌, ◌∙◌, ◌∷◌, ◌≡◌, decimal, ClockKind, Event, Member, Query, SnapshotView, clock_line, compacted_text, is_whole, line_above_zero, lines_of, prefix_of, sealed, event_line, event_text, kept_clock_line, kept_clock_text, kept_compaction_of, kept_line_above_zero, min_line, min_text, query_line, query_text}
use Rattle.std.proofs.lemmas.List.Folds.{list_any-append}
use Rattle.std.specs.List.{list_any}
use Rattle.std.specs.Prelude.{is_some, ◌||◌}
use Rattle.serf_snapshot.specs.Handlers.{handler_line, is_done_up_to, is_tracked}
use Rattle.serf_snapshot.specs.HandlerLaws.{AreSilent, AreUntracked, IsUntracked, LeavesUntracked}
use Rattle.serf_snapshot.proofs.ClockLaws.{front_lines, has_no_newline, is_whole-push, lines_of-append, lines_of-one, prefix_no_newline, torn_line}
use Rattle.serf_snapshot.proofs.EventLineLaws.{no_newline-decimal, no_newline-event, no_newline-query}
use Rattle.serf_snapshot.proofs.FileStepLaws.{done_up_to-sealed}
use Rattle.serf_snapshot.proofs.KeptAppendLineLaws.{is_whole-append}
use Rattle.serf_snapshot.proofs.MinTimeLaws.{kept_no_newline, min_no_newline}

-- ---- all lines of a text

pub all-one : (P : List ℕ → Type 0) (l : List ℕ) → lines_of (l ++ 10 ∷ []) ≡ l ∷ [] → P l → All P (lines_of (l ++ 10 ∷ []))
all-one P l one p = subst (All P) (sym one) (All-cons P l [] p (All-nil P))

pub all-joined : (P : List ℕ → Type 0) (a b : List ℕ) → is_whole a ≡ true → All P (lines_of a) → All P (lines_of b) → All P (lines_of (a ++ b))
all-joined P a b whole all_a all_b = subst (All P) (sym (lines_of-append a b whole)) (All-append P (lines_of a) (lines_of b) all_a all_b)

all-front : (P : List ℕ → Type 0) (xs ys : List (List ℕ)) → All P (xs ++ ys) → All P xs
all-front P [] ys all = All-nil P
all-front P (x ∷ xs) ys all = All-cons P x xs (All-head P x (xs ++ ys) all) (all-front P xs ys (All-tail P x (xs ++ ys) all))

-- ---- lines that say nothing of handlers

silent-line : (l : List ℕ) → has_no_newline l ≡ true → handler_line l ≡ None → AreSilent (l ++ 10 ∷ [])
silent-line l one none = record { whole = is_whole-push l; silent = all-one (λ (line : List ℕ). handler_line line ≡ None) l (lines_of-one l one) none }

pub silent-both : (a b : List ℕ) → AreSilent a → AreSilent b → AreSilent (a ++ b)
silent-both a b ha hb = record {
  whole = is_whole-append a b ha.whole hb.whole;
  silent = all-joined (λ (line : List ℕ). handler_line line ≡ None) a b ha.whole ha.silent hb.silent;
}

clock-silent : (k : ClockKind) (digits : List ℕ) → handler_line (prefix_of k ++ digits) ≡ None
clock-silent Member digits = refl
clock-silent Event digits = refl
clock-silent Query digits = refl

min-silent : (k : ClockKind) (t : ℕ) → handler_line (min_text k t) ≡ None
min-silent Member t = refl
min-silent Event t = refl
min-silent Query t = refl

pub silent-clock_line : (k : ClockKind) (t : ℕ) → AreSilent (clock_line k t)
silent-clock_line k t = silent-line (prefix_of k ++ decimal t) (prefix_no_newline k (decimal t) (no_newline-decimal t)) (clock-silent k (decimal t))

pub silent-kept_clock_line : (k : ClockKind) (t : ℕ) → AreSilent (kept_clock_line k t)
silent-kept_clock_line k t = silent-line (kept_clock_text k t) (kept_no_newline k t) (clock-silent k (48 ∷ decimal t))

pub silent-min_line : (k : ClockKind) (t : ℕ) → AreSilent (min_line k t)
silent-min_line k t = silent-line (min_text k t) (min_no_newline k t) (min-silent k t)

pub silent-query_line : (t id : ℕ) → AreSilent (query_line t id)
silent-query_line t id = silent-line (query_text t id) (no_newline-query t id) refl

pub silent-alive : (rest : List ℕ) → handler_line (codes "alive: " ++ rest) ≡ None
silent-alive rest = refl

pub silent-not_alive : (rest : List ℕ) → handler_line (codes "not-alive: " ++ rest) ≡ None
silent-not_alive rest = refl

-- ---- lines that say nothing of begun, done and open events

untracked-line : (l : List ℕ) → has_no_newline l ≡ true → IsUntracked l → AreUntracked (l ++ 10 ∷ [])
untracked-line l one none = record { whole = is_whole-push l; untracked = all-one IsUntracked l (lines_of-one l one) none }

pub untracked-both : (a b : List ℕ) → AreUntracked a → AreUntracked b → AreUntracked (a ++ b)
untracked-both a b ha hb = record {
  whole = is_whole-append a b ha.whole hb.whole;
  untracked = all-joined IsUntracked a b ha.whole ha.untracked hb.untracked;
}

clock-untracked : (k : ClockKind) (digits : List ℕ) → IsUntracked (prefix_of k ++ digits)
clock-untracked Member digits = record { begun = refl; done = refl; done_up_to = refl; opened = refl }
clock-untracked Event digits = record { begun = refl; done = refl; done_up_to = refl; opened = refl }
clock-untracked Query digits = record { begun = refl; done = refl; done_up_to = refl; opened = refl }

min-untracked : (k : ClockKind) (t : ℕ) → IsUntracked (min_text k t)
min-untracked Member t = record { begun = refl; done = refl; done_up_to = refl; opened = refl }
min-untracked Event t = record { begun = refl; done = refl; done_up_to = refl; opened = refl }
min-untracked Query t = record { begun = refl; done = refl; done_up_to = refl; opened = refl }

pub untracked-clock_line : (k : ClockKind) (t : ℕ) → AreUntracked (clock_line k t)
untracked-clock_line k t = untracked-line (prefix_of k ++ decimal t) (prefix_no_newline k (decimal t) (no_newline-decimal t)) (clock-untracked k (decimal t))

pub untracked-kept_clock_line : (k : ClockKind) (t : ℕ) → AreUntracked (kept_clock_line k t)
untracked-kept_clock_line k t = untracked-line (kept_clock_text k t) (kept_no_newline k t) (clock-untracked k (48 ∷ decimal t))

pub untracked-min_line : (k : ClockKind) (t : ℕ) → AreUntracked (min_line k t)
untracked-min_line k t = untracked-line (min_text k t) (min_no_newline k t) (min-untracked k t)

pub untracked-event_line : (t : ℕ) (name payload : List ℕ) → AreUntracked (event_line t name payload)
untracked-event_line t name payload = untracked-line (event_text t name payload) (no_newline-event t name payload) (record { begun = refl; done = refl; done_up_to = refl; opened = refl })

pub untracked-query_line : (t id : ℕ) → AreUntracked (query_line t id)
untracked-query_line t id = untracked-line (query_text t id) (no_newline-query t id) (record { begun = refl; done = refl; done_up_to = refl; opened = refl })

-- ---- compactions

untracked-nothing : AreUntracked []
untracked-nothing = record { whole = refl; untracked = All-nil IsUntracked }

untracked-above_zero : (k : ClockKind) (t : ℕ) → AreUntracked (line_above_zero k t)
untracked-above_zero k t = by (t == 0)
  where
    by : (b : Bool) → AreUntracked (cond b [] (clock_line k t))
    by true = untracked-nothing
    by false = untracked-clock_line k t

untracked-kept_above : (k : ClockKind) (t : ℕ) → AreUntracked (kept_line_above_zero k t)
untracked-kept_above k t = by (t == 0)
  where
    by : (b : Bool) → AreUntracked (cond b [] (kept_clock_line k t))
    by true = untracked-nothing
    by false = untracked-kept_clock_line k t

pub untracked-compacted : (m e q : ℕ) → AreUntracked (compacted_text m e q)
untracked-compacted m e q =
    untracked-both (line_above_zero Member m ++ line_above_zero Event e) (line_above_zero Query q)
    (untracked-both (line_above_zero Member m) (line_above_zero Event e) (untracked-above_zero Member m) (untracked-above_zero Event e))
    (untracked-above_zero Query q)

pub untracked-kept_compacted : (lines : List ℕ) (s : SnapshotView) → AreUntracked lines → AreUntracked (kept_compaction_of lines s)
untracked-kept_compacted lines s h =
    let member : List ℕ = lines ++ line_above_zero Member s.member_clock in
    let event : List ℕ = member ++ kept_line_above_zero Event s.event_clock in
    untracked-both event (kept_line_above_zero Query s.query_clock)
    (untracked-both member (kept_line_above_zero Event s.event_clock)
    (untracked-both lines (line_above_zero Member s.member_clock) h (untracked-above_zero Member s.member_clock))
    (untracked-kept_above Event s.event_clock))
    (untracked-kept_above Query s.query_clock)

-- ---- a text stays untracked

or-nothing : (b : Bool) → (b || false) ≡ b
or-nothing true = refl
or-nothing false = refl

none-done : (lines : List (List ℕ)) → All IsUntracked lines → list_any is_done_up_to lines ≡ false
none-done [] all = refl
none-done (l ∷ lines) all =
    ap (λ (b : Bool). b || list_any is_done_up_to lines) (ap is_some (All-head IsUntracked l lines all).done_up_to)
    ∙ none-done lines (All-tail IsUntracked l lines all)

tracked-sealed : (text : List ℕ) → is_tracked (sealed text) ≡ is_tracked text
tracked-sealed text = step (is_whole text) refl
  where
    step : (t : Bool) → is_whole text ≡ t → is_tracked (cond t text (text ++ 35 ∷ 10 ∷ [])) ≡ is_tracked text
    step true e = refl
    step false e =
        let torn = torn_line text e in
        ap (list_any is_done_up_to) torn.1
        ∙ list_any-append is_done_up_to (lines_of text) ((torn.0 ++ 35 ∷ []) ∷ [])
        ∙ ap (λ (b : Bool). is_tracked text || (b || false)) (ap is_some (done_up_to-sealed torn.0))
        ∙ or-nothing (is_tracked text)

pub leaves-untracked : LeavesUntracked
leaves-untracked text lines n whole own =
    let rest = front_lines (take n lines) (drop n lines) in
    let split : lines_of lines ≡ lines_of (take n lines) ++ rest.0 = ap lines_of (sym (take-append-drop n lines)) ∙ rest.1 in
    let part : All IsUntracked (lines_of (take n lines)) = all-front IsUntracked (lines_of (take n lines)) rest.0 (subst (All IsUntracked) split own.untracked) in
    tracked-sealed (text ++ take n lines)
    ∙ ap (list_any is_done_up_to) (lines_of-append text (take n lines) whole)
    ∙ list_any-append is_done_up_to (lines_of text) (lines_of (take n lines))
    ∙ ap (λ (b : Bool). is_tracked text || b) (none-done (lines_of (take n lines)) part)
    ∙ or-nothing (is_tracked text)
