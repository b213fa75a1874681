-- What the appended lines and the compactions of an agent that keeps its events do to the durable bytes.
use Rattle.serf_snapshot.proofs.Names.{Bool, List, None, Option, Some, [], ap, append_assoc, arith, cond, false, inl, inr, max, nat_le, refl, subst, sym, true, ℕ, ◌++◌, ◌-◌, ◌<◌, ◌==◌, ◌^◌, ◌∙◌, ◌∷◌, ◌≡◌, ◌≢◌, ◌≤◌, eqb-true, leb-true, true≢false, option_map, largest, is_whole, last_clock, line_above_zero, line_value, lines_of, event_line, event_text, kept_clock_line, kept_clock_text, min_line, min_text, query_line, query_text, SaysNoClock, compaction_bytes, kept_bytes, kept_compaction_of, kept_line_above_zero, kept_appended, lines_given, text_with, Failed, IsKept, IsSnapshotSound, KeepsEither, KeepsPart, Kept, SnapshotView, last_line, text_replaced, written, ClockKind, Event, Member, Query}
use Rattle.serf_snapshot.proofs.ClockLaws.{largest-append, has_no_newline, is_whole-above_zero, is_whole-push, last_clock-above_zero, last_clock-below, lines_of-append, lines_of-one}
use Rattle.serf_snapshot.proofs.EventLineLaws.{hash_no_clock, no_newline-event, no_newline-query}
use Rattle.serf_snapshot.proofs.MinTimeLaws.{last_clock-kept_line, last_clock-kept_other, min_no_newline}
use Rattle.serf_snapshot.proofs.AppendLineLaws.{last_line-other, last_line-written, same_kind, some-same, sound-failed, stopped-kept}
use Rattle.serf_snapshot.proofs.SayLaws.{append_nil}

-- ---- whole texts

pub is_whole-append : (a b : List ℕ) → is_whole a ≡ true → is_whole b ≡ true → is_whole (a ++ b) ≡ true
is_whole-append [] b ha hb = hb
is_whole-append (x ∷ []) [] ha hb = ha
is_whole-append (x ∷ []) (y ∷ b) ha hb = hb
is_whole-append (x ∷ y ∷ a) b ha hb = is_whole-append (y ∷ a) b ha hb

last_clock-append : (k : ClockKind) (a b : List ℕ) → is_whole a ≡ true → last_clock k (a ++ b) ≡ max (last_clock k a) (last_clock k b)
last_clock-append k a b whole = ap (largest k) (lines_of-append a b whole) ∙ largest-append k (lines_of a) (lines_of b)

-- ---- lines without a clock

line-no_clock : (text : List ℕ) → has_no_newline text ≡ true → ((kind : ClockKind) → line_value kind text ≡ 0) → SaysNoClock (text ++ 10 ∷ [])
line-no_clock text none says = record { whole = is_whole-push text; clocks = λ kind. ap (largest kind) (lines_of-one text none) ∙ omega (arith, says kind) }

pub event-no_clock : (t : ℕ) (name payload : List ℕ) → SaysNoClock (event_line t name payload)
event-no_clock t name payload = line-no_clock (event_text t name payload) (no_newline-event t name payload) (λ kind. hash_no_clock kind _)

pub query-no_clock : (t id : ℕ) → SaysNoClock (query_line t id)
query-no_clock t id = line-no_clock (query_text t id) (no_newline-query t id) (λ kind. hash_no_clock kind _)

pub lowest-no_clock : (k : ClockKind) (t : ℕ) → SaysNoClock (min_line k t)
lowest-no_clock k t = line-no_clock (min_text k t) (min_no_newline k t) (λ kind. hash_no_clock kind _)

pub no_clock-append : (a b : List ℕ) → SaysNoClock a → SaysNoClock b → SaysNoClock (a ++ b)
no_clock-append a b ha hb = record {
  whole = is_whole-append a b ha.whole hb.whole;
  clocks = λ kind. omega (arith, last_clock-append kind a b ha.whole, ha.clocks kind, hb.clocks kind);
}

-- ---- an appended line

pub is_whole-kept_line : (k : ClockKind) (text : List ℕ) (t : ℕ) → is_whole (text ++ kept_clock_line k t) ≡ true
is_whole-kept_line k text t = ap is_whole (sym (append_assoc text (kept_clock_text k t) (10 ∷ []))) ∙ is_whole-push (text ++ kept_clock_text k t)

-- the clock line that is appended, if any, when this is the last line of its kind
front_of : ClockKind → ℕ → ℕ → List ℕ
front_of kind t last = cond (nat_le t last) [] (kept_clock_line kind t)

is_whole-front : (kind : ClockKind) (text : List ℕ) (t last : ℕ) → is_whole text ≡ true → is_whole (text ++ front_of kind t last) ≡ true
unfolding front_of
is_whole-front kind text t last whole = by (nat_le t last)
  where
    by : (b : Bool) → is_whole (text ++ cond b [] (kept_clock_line kind t)) ≡ true
    by true = ap is_whole (append_nil text) ∙ whole
    by false = is_whole-kept_line kind text t

own-front : (kind : ClockKind) (text : List ℕ) (t last : ℕ) → is_whole text ≡ true → t < 2 ^ 64 - 1 → last_clock kind text ≡ last → last_clock kind (text ++ front_of kind t last) ≡ max last t
unfolding front_of
own-front kind text t last whole small is = by (nat_le t last) refl
  where
    by : (b : Bool) → nat_le t last ≡ b → last_clock kind (text ++ cond b [] (kept_clock_line kind t)) ≡ max last t
    by true low = let le : t ≤ last = leb-true t last low in ap (last_clock kind) (append_nil text) ∙ omega (arith, is)
    by false high = omega (arith, last_clock-kept_line kind text t whole small, is)

other-front : (at kind : ClockKind) (text : List ℕ) (t last : ℕ) → is_whole text ≡ true → t < 2 ^ 64 - 1 → at ≢ kind → last_clock at (text ++ front_of kind t last) ≡ last_clock at text
unfolding front_of
other-front at kind text t last whole small other = by (nat_le t last)
  where
    by : (b : Bool) → last_clock at (text ++ cond b [] (kept_clock_line kind t)) ≡ last_clock at text
    by true = ap (last_clock at) (append_nil text)
    by false = last_clock-kept_other at kind text t whole small other

-- the clocks after an appended line
clock-following : (kind at : ClockKind) (s : SnapshotView) (t : ℕ) (line k : List ℕ) → s.stopped ≡ false → t < 2 ^ 64 - 1 → SaysNoClock line → IsKept s k
    → last_clock at (k ++ (front_of kind t (last_line kind s) ++ line)) ≡ last_line at (written kind (max (last_line kind s) t) s Kept)
clock-following kind at s t line k runs small says h =
    let last : ℕ = last_line kind s in
    let whole : is_whole (k ++ front_of kind t last) ≡ true = is_whole-front kind k t last (h.whole runs) in
    let all : last_clock at (k ++ (front_of kind t last ++ line)) ≡ last_clock at (k ++ front_of kind t last) =
    ap (last_clock at) (sym (append_assoc k (front_of kind t last) line)) ∙ omega (arith, last_clock-append at (k ++ front_of kind t last) line whole, says.clocks at) in
    all ∙ elim (same_kind at kind) [
      | inl same ↦
          let top : last_clock kind (k ++ front_of kind t last) ≡ max last t = own-front kind k t last (h.whole runs) small (h.equal runs kind) in
          subst (λ (a : ClockKind). last_clock a (k ++ front_of kind t (last_line kind s)) ≡ last_line a (written kind (max (last_line kind s) t) s Kept)) (sym same) (top ∙ sym (last_line-written kind (max last t) s))
      | inr other ↦ other-front at kind k t last (h.whole runs) small other ∙ h.equal runs at ∙ sym (last_line-other at kind (max last t) s other)
    ]

kept-following : (kind : ClockKind) (s : SnapshotView) (t : ℕ) (line k : List ℕ) → s.stopped ≡ false → t < 2 ^ 64 - 1 → SaysNoClock line → IsKept s k → IsKept (kept_appended kind t line s Kept) (k ++ kept_bytes kind t line (last_line kind s))
unfolding front_of
kept-following kind s t line k runs small says h =
    let clocks : (at : ClockKind) → last_clock at (k ++ kept_bytes kind t line (last_line kind s)) ≡ last_line at (kept_appended kind t line s Kept) = λ at. clock-following kind at s t line k runs small says h in
    record {
      at_least = λ at. let e = clocks at in omega (arith, e);
      equal = λ _ at. clocks at;
      whole = λ _. ap is_whole (sym (append_assoc k (front_of kind t (last_line kind s)) line))
          ∙ is_whole-append (k ++ front_of kind t (last_line kind s)) line (is_whole-front kind k t (last_line kind s) (h.whole runs)) says.whole;
    }

pub sound-kept_appended : (kind : ClockKind) (s : SnapshotView) (t : ℕ) (line : List ℕ) → IsSnapshotSound s → s.stopped ≡ false → t < 2 ^ 64 - 1 → SaysNoClock line → IsSnapshotSound (kept_appended kind t line s Kept)
sound-kept_appended kind s t line sound runs small says k at = by s.durable refl
  where
    bytes : List ℕ
    bytes = kept_bytes kind t line (last_line kind s)

    by : (r : Option (List ℕ)) → s.durable ≡ r → IsKept (kept_appended kind t line s Kept) k
    by None is = absurd (let no : None ≡ Some k = sym (ap (λ (o : Option (List ℕ)). option_map (λ (l : List ℕ). l ++ bytes) o) is) ∙ at in cc)
    by (Some old) is =
        let same : old ++ bytes ≡ k = some-same _ _ (sym (ap (λ (o : Option (List ℕ)). option_map (λ (l : List ℕ). l ++ bytes) o) is) ∙ at) in
        subst (IsKept (kept_appended kind t line s Kept)) same (kept-following kind s t line old runs small says (sound old is))

pub sound-kept_failed : (kind : ClockKind) (s : SnapshotView) (t : ℕ) (line bytes : List ℕ) (durable : Option (List ℕ)) → IsSnapshotSound s → KeepsPart s.durable bytes durable → IsSnapshotSound (kept_appended kind t line s (Failed durable))
sound-kept_failed kind s t line bytes durable sound part = sound-failed kind s t bytes durable sound part

-- ---- a compaction

pub is_whole-kept_above : (kind : ClockKind) (text : List ℕ) (t : ℕ) → is_whole text ≡ true → is_whole (text ++ kept_line_above_zero kind t) ≡ true
is_whole-kept_above kind text t whole = by (t == 0)
  where
    by : (b : Bool) → is_whole (text ++ cond b [] (kept_clock_line kind t)) ≡ true
    by true = ap is_whole (append_nil text) ∙ whole
    by false = is_whole-kept_line kind text t

own-kept_above : (kind : ClockKind) (text : List ℕ) (t : ℕ) → is_whole text ≡ true → t < 2 ^ 64 - 1 → last_clock kind (text ++ kept_line_above_zero kind t) ≡ max (last_clock kind text) t
own-kept_above kind text t whole small = by (t == 0) refl
  where
    by : (b : Bool) → (t == 0) ≡ b → last_clock kind (text ++ cond b [] (kept_clock_line kind t)) ≡ max (last_clock kind text) t
    by true zero = let none : t ≡ 0 = eqb-true t 0 zero in ap (last_clock kind) (append_nil text) ∙ omega (arith, none)
    by false some = last_clock-kept_line kind text t whole small

other-kept_above : (at kind : ClockKind) (text : List ℕ) (t : ℕ) → is_whole text ≡ true → t < 2 ^ 64 - 1 → at ≢ kind → last_clock at (text ++ kept_line_above_zero kind t) ≡ last_clock at text
other-kept_above at kind text t whole small other = by (t == 0)
  where
    by : (b : Bool) → last_clock at (text ++ cond b [] (kept_clock_line kind t)) ≡ last_clock at text
    by true = ap (last_clock at) (append_nil text)
    by false = last_clock-kept_other at kind text t whole small other

pub is_whole-kept_compaction : (lines : List ℕ) (s : SnapshotView) → is_whole lines ≡ true → is_whole (kept_compaction_of lines s) ≡ true
is_whole-kept_compaction lines s whole =
    is_whole-kept_above Query ((lines ++ line_above_zero Member s.member_clock) ++ kept_line_above_zero Event s.event_clock) s.query_clock
    (is_whole-kept_above Event (lines ++ line_above_zero Member s.member_clock) s.event_clock (is_whole-above_zero Member lines s.member_clock whole))

clock-kept_compaction : (kind : ClockKind) (lines : List ℕ) (s : SnapshotView) → SaysNoClock lines → ((at : ClockKind) → last_line at s < 2 ^ 64 - 1) → last_clock kind (kept_compaction_of lines s) ≡ last_line kind s
clock-kept_compaction kind lines s says low = by kind
  where
    m : List ℕ
    m = lines ++ line_above_zero Member s.member_clock

    e : List ℕ
    e = m ++ kept_line_above_zero Event s.event_clock

    whole_m : is_whole (lines ++ line_above_zero Member s.member_clock) ≡ true
    whole_m = is_whole-above_zero Member lines s.member_clock says.whole

    whole_e : is_whole ((lines ++ line_above_zero Member s.member_clock) ++ kept_line_above_zero Event s.event_clock) ≡ true
    whole_e = is_whole-kept_above Event (lines ++ line_above_zero Member s.member_clock) s.event_clock whole_m

    by : (at : ClockKind) → last_clock at (kept_compaction_of lines s) ≡ last_line at s
    by Member =
        other-kept_above Member Query ((lines ++ line_above_zero Member s.member_clock) ++ kept_line_above_zero Event s.event_clock) s.query_clock whole_e (low Query) (λ q. cc)
        ∙ other-kept_above Member Event (lines ++ line_above_zero Member s.member_clock) s.event_clock whole_m (low Event) (λ q. cc)
        ∙ omega (arith, last_clock-above_zero Member Member lines s.member_clock says.whole (low Member), says.clocks Member)
    by Event =
        other-kept_above Event Query ((lines ++ line_above_zero Member s.member_clock) ++ kept_line_above_zero Event s.event_clock) s.query_clock whole_e (low Query) (λ q. cc)
        ∙ omega (arith, own-kept_above Event (lines ++ line_above_zero Member s.member_clock) s.event_clock whole_m (low Event), last_clock-above_zero Event Member lines s.member_clock says.whole (low Member), says.clocks Event)
    by Query =
        omega (
          arith,
          own-kept_above Query ((lines ++ line_above_zero Member s.member_clock) ++ kept_line_above_zero Event s.event_clock) s.query_clock whole_e (low Query),
          other-kept_above Query Event (lines ++ line_above_zero Member s.member_clock) s.event_clock whole_m (low Event) (λ q. cc),
          last_clock-above_zero Query Member lines s.member_clock says.whole (low Member),
          says.clocks Query,
        )

below-kept : (s : SnapshotView) (old : List ℕ) → IsKept s old → (at : ClockKind) → last_line at s < 2 ^ 64 - 1
below-kept s old h at = let a : last_line at s ≤ last_clock at old = h.at_least at in let b : last_clock at old < 2 ^ 64 - 1 = last_clock-below at old in omega arith

pub sound-kept_compacted : (s : SnapshotView) (lines : List ℕ) → IsSnapshotSound s → SaysNoClock lines → IsSnapshotSound (text_replaced (kept_compaction_of lines s) s Kept)
sound-kept_compacted s lines sound says k at = by s.durable refl
  where
    by : (r : Option (List ℕ)) → s.durable ≡ r → IsKept (text_replaced (kept_compaction_of lines s) s Kept) k
    by None is = absurd (let no : None ≡ Some k = sym (ap (λ (o : Option (List ℕ)). option_map (λ (l : List ℕ). kept_compaction_of lines s) o) is) ∙ at in cc)
    by (Some old) is =
        let same : kept_compaction_of lines s ≡ k = some-same _ _ (sym (ap (λ (o : Option (List ℕ)). option_map (λ (l : List ℕ). kept_compaction_of lines s) o) is) ∙ at) in
        let clocks : (kind : ClockKind) → last_clock kind k ≡ last_line kind s = λ kind. ap (last_clock kind) (sym same) ∙ clock-kept_compaction kind lines s says (below-kept s old (sound old is)) in
        record {
          at_least = λ kind. let e = clocks kind in omega (arith, e);
          equal = λ _. clocks;
          whole = λ _. ap is_whole (sym same) ∙ is_whole-kept_compaction lines s says.whole;
        }

pub sound-kept_compaction_failed : (s : SnapshotView) (lines : List ℕ) (durable : Option (List ℕ)) → IsSnapshotSound s → SaysNoClock lines → KeepsEither s.durable (kept_compaction_of lines s) durable
    → IsSnapshotSound (text_replaced (kept_compaction_of lines s) s (Failed durable))
sound-kept_compaction_failed s lines durable sound says either k at = by s.durable refl either
  where
    by : (r : Option (List ℕ)) → s.durable ≡ r → KeepsEither r (kept_compaction_of lines s) durable → IsKept (text_replaced (kept_compaction_of lines s) s (Failed durable)) k
    by None is none = absurd (let no : None ≡ Some k = sym none ∙ at in cc)
    by (Some old) is (inl same) =
        let e : old ≡ k = some-same _ _ (sym same ∙ at) in
        stopped-kept s (text_replaced (kept_compaction_of lines s) s (Failed durable)) old k (sound old is) (λ kind. refl) (λ kind. let f : last_clock kind old ≡ last_clock kind k = ap (last_clock kind) e in omega (arith, f)) refl
    by (Some old) is (inr same) =
        let e : kept_compaction_of lines s ≡ k = some-same _ _ (sym same ∙ at) in
        record {
          at_least = λ kind. let f : last_clock kind k ≡ last_line kind s = ap (last_clock kind) (sym e) ∙ clock-kept_compaction kind lines s says (below-kept s old (sound old is)) in omega (arith, f);
          equal = λ x. absurd (true≢false x);
          whole = λ x. absurd (true≢false x);
        }

-- the parts of a compaction together are the text that it should leave
pub text-given : (lines : List ℕ) (s : SnapshotView) → compaction_bytes lines s.member_clock s.event_clock s.query_clock ≡ text_with (lines_given lines) s
text-given [] s = refl
text-given (b ∷ bs) s = refl
