-- What an appended line, a failure, an opening and a compaction do to the durable bytes.
use Rattle.serf_snapshot.proofs.Names.{List, None, Option, Some, ap, arith, cond, false, inl, inr, max, nat_le, refl, subst, sym, take, true, ℕ, ◌++◌, ◌-◌, ◌<◌, ◌^◌, ◌∙◌, ◌≡◌, ◌≢◌, ◌≤◌, ◌⊎◌, cases_Bool, leb-false, true≢false, option_map, clock_line, is_whole, last_clock, sealed, Device, FailurePlan, Observable, Failed, IsKept, IsSnapshotSound, KeepsEither, KeepsPart, Kept, SnapshotView, compacted, compaction_of, last_line, noted, opened, with_sink, written, ClockKind, Event, Member, Query}
use Rattle.serf_snapshot.proofs.ClockLaws.{last_clock_grows, last_clock-line, last_clock-other_line, is_whole-line, is_whole-sealed, last_clock-sealed, last_clock-below, last_clock-compacted, is_whole-compacted}

pub some-same : {X : Type 0} (x y : X) → Some x ≡ Some y → x ≡ y
some-same x y h = cc

-- the last line of a kind after a line was written
pub last_line-written : (kind : ClockKind) (t : ℕ) (s : SnapshotView) → last_line kind (written kind t s Kept) ≡ t
last_line-written Member t s = refl
last_line-written Event t s = refl
last_line-written Query t s = refl

pub last_line-other : (at kind : ClockKind) (t : ℕ) (s : SnapshotView) → at ≢ kind → last_line at (written kind t s Kept) ≡ last_line at s
last_line-other Member Member t s h = absurd (h refl)
last_line-other Member Event t s h = refl
last_line-other Member Query t s h = refl
last_line-other Event Member t s h = refl
last_line-other Event Event t s h = absurd (h refl)
last_line-other Event Query t s h = refl
last_line-other Query Member t s h = refl
last_line-other Query Event t s h = refl
last_line-other Query Query t s h = absurd (h refl)

-- two kinds are the same or different
pub same_kind : (at kind : ClockKind) → (at ≡ kind) ⊎ (at ≢ kind)
same_kind Member Member = inl refl
same_kind Member Event = inr (λ q. cc)
same_kind Member Query = inr (λ q. cc)
same_kind Event Member = inr (λ q. cc)
same_kind Event Event = inl refl
same_kind Event Query = inr (λ q. cc)
same_kind Query Member = inr (λ q. cc)
same_kind Query Event = inr (λ q. cc)
same_kind Query Query = inl refl

-- a line after the durable bytes
clock-after : (kind at : ClockKind) (s : SnapshotView) (t : ℕ) (k : List ℕ) → s.stopped ≡ false → last_line kind s < t → t < 2 ^ 64 - 1 → IsKept s k
    → last_clock at (k ++ clock_line kind t) ≡ last_line at (written kind t s Kept)
clock-after kind at s t k runs above small h = elim (same_kind at kind) [
  | inl same ↦
      let own : last_clock kind (k ++ clock_line kind t) ≡ max (last_clock kind k) t = last_clock-line kind k t (h.whole runs) small in
      let e : last_clock kind k ≡ last_line kind s = h.equal runs kind in
      let top : last_clock kind (k ++ clock_line kind t) ≡ t = omega (arith, own, e, above) in
      subst (λ (a : ClockKind). last_clock a (k ++ clock_line kind t) ≡ last_line a (written kind t s Kept)) (sym same) (top ∙ sym (last_line-written kind t s))
  | inr other ↦ last_clock-other_line at kind k t (h.whole runs) small other ∙ h.equal runs at ∙ sym (last_line-other at kind t s other)
]

kept-line : (kind : ClockKind) (s : SnapshotView) (t : ℕ) (k : List ℕ) → s.stopped ≡ false → last_line kind s < t → t < 2 ^ 64 - 1 → IsKept s k → IsKept (written kind t s Kept) (k ++ clock_line kind t)
kept-line kind s t k runs above small h =
    record {
      at_least = λ at. let e = clock-after kind at s t k runs above small h in omega (arith, e);
      equal = λ _ at. clock-after kind at s t k runs above small h;
      whole = λ _. is_whole-line kind k t;
    }

pub sound-noted : (kind : ClockKind) (s : SnapshotView) (t : ℕ) → IsSnapshotSound s → s.stopped ≡ false → t < 2 ^ 64 - 1 → IsSnapshotSound (noted kind t s Kept)
sound-noted kind s t sound runs small = elim (cases_Bool (nat_le t (last_line kind s))) [
  | inl low ↦ subst IsSnapshotSound (sym (ap (λ b. cond b s (written kind t s Kept)) low)) sound
  | inr high ↦ subst IsSnapshotSound (sym (ap (λ b. cond b s (written kind t s Kept)) high)) (by s.durable refl (leb-false _ _ high))
]
  where
    by : (r : Option (List ℕ)) → s.durable ≡ r → last_line kind s < t → IsSnapshotSound (written kind t s Kept)
    by None is above k at = absurd (let no : None ≡ Some k = sym (ap (λ (o : Option (List ℕ)). option_map (λ (l : List ℕ). l ++ clock_line kind t) o) is) ∙ at in cc)
    by (Some old) is above k at =
        let same : old ++ clock_line kind t ≡ k = some-same _ _ (sym (ap (λ (o : Option (List ℕ)). option_map (λ (l : List ℕ). l ++ clock_line kind t) o) is) ∙ at) in
        subst (IsKept (written kind t s Kept)) same (kept-line kind s t old runs above small (sound old is))

-- a stopped snapshot is sound if the durable bytes have no lower clock than before
pub stopped-kept : (s n : SnapshotView) (old new : List ℕ) → IsKept s old → ((kind : ClockKind) → last_line kind n ≡ last_line kind s) → ((kind : ClockKind) → last_clock kind old ≤ last_clock kind new) → n.stopped ≡ true → IsKept n new
stopped-kept s n old new h lines grown stopped =
    record {
      at_least = λ at. let l : last_line at n ≡ last_line at s = lines at in let a : last_line at s ≤ last_clock at old = h.at_least at in let g : last_clock at old ≤ last_clock at new = grown at in omega arith;
      equal = λ x. absurd (true≢false (sym stopped ∙ x));
      whole = λ x. absurd (true≢false (sym stopped ∙ x));
    }

-- a failure may leave a part of the line
pub sound-failed : (kind : ClockKind) (s : SnapshotView) (t : ℕ) (line : List ℕ) (durable : Option (List ℕ)) → IsSnapshotSound s → KeepsPart s.durable line durable → IsSnapshotSound (written kind t s (Failed durable))
sound-failed kind s t line durable sound part = by s.durable durable refl part
  where
    by : (r n : Option (List ℕ)) → s.durable ≡ r → KeepsPart r line n → IsSnapshotSound (written kind t s (Failed n))
    by None n is p k at = absurd (let no : None ≡ Some k = sym p ∙ at in cc)
    by (Some old) None is p k at = absurd (cc at)
    by (Some old) (Some new) is p k at =
        let same : k ≡ old ++ take p.0 line = some-same _ _ (sym at) ∙ p.1 in
        stopped-kept s (written kind t s (Failed (Some new))) old k (sound old is) (λ at. refl) (λ at. subst (λ (l : List ℕ). last_clock at old ≤ last_clock at l) (sym same) (last_clock_grows at old (take p.0 line))) refl

pub sound-opened : (text : List ℕ) (d : Device) → IsSnapshotSound (opened text d)
sound-opened text d k at = by d.observed_bytes refl
  where
    lines : (kind : ClockKind) → last_line kind (opened text d) ≡ last_clock kind text
    lines Member = refl
    lines Event = refl
    lines Query = refl

    by : (r : Option Observable) → d.observed_bytes ≡ r → IsKept (opened text d) k
    by None is = absurd (let no : None ≡ Some k = sym (ap (λ (o : Option Observable). option_map (λ (b : Observable). sealed text) o) is) ∙ at in cc)
    by (Some b) is =
        let same : sealed text ≡ k = some-same _ _ (sym (ap (λ (o : Option Observable). option_map (λ (x : Observable). sealed text) o) is) ∙ at) in
        let clocks : (kind : ClockKind) → last_clock kind k ≡ last_line kind (opened text d) = λ kind. ap (last_clock kind) (sym same) ∙ last_clock-sealed kind text ∙ sym (lines kind) in
        record {
          at_least = λ kind. let e = clocks kind in omega (arith, e);
          equal = λ _. clocks;
          whole = λ _. ap is_whole (sym same) ∙ is_whole-sealed text;
        }

-- the clocks of a compacted text are the last lines, which are times because the durable text has them
clock-compacted : (s : SnapshotView) (old : List ℕ) → IsKept s old → (kind : ClockKind) → last_clock kind (compaction_of s) ≡ last_line kind s
clock-compacted s old h kind =
    last_clock-compacted kind s.member_clock s.event_clock s.query_clock (low Member) (low Event) (low Query)
  where
    low : (at : ClockKind) → last_line at s < 2 ^ 64 - 1
    low at = let a : last_line at s ≤ last_clock at old = h.at_least at in let b : last_clock at old < 2 ^ 64 - 1 = last_clock-below at old in omega arith

pub sound-compacted : (s : SnapshotView) → IsSnapshotSound s → IsSnapshotSound (compacted s Kept)
sound-compacted s sound = by s.durable refl
  where
    by : (r : Option (List ℕ)) → s.durable ≡ r → IsSnapshotSound (compacted s Kept)
    by None is k at = absurd (let no : None ≡ Some k = sym (ap (λ (o : Option (List ℕ)). option_map (λ (l : List ℕ). compaction_of s) o) is) ∙ at in cc)
    by (Some old) is k at =
        let same : compaction_of s ≡ k = some-same _ _ (sym (ap (λ (o : Option (List ℕ)). option_map (λ (l : List ℕ). compaction_of s) o) is) ∙ at) in
        let clocks : (kind : ClockKind) → last_clock kind k ≡ last_line kind s = λ kind. ap (last_clock kind) (sym same) ∙ clock-compacted s old (sound old is) kind in
        record {
          at_least = λ kind. let e = clocks kind in omega (arith, e);
          equal = λ _. clocks;
          whole = λ _. ap is_whole (sym same) ∙ is_whole-compacted s.member_clock s.event_clock s.query_clock;
        }

pub sound-compaction_failed : (s : SnapshotView) (durable : Option (List ℕ)) → IsSnapshotSound s → KeepsEither s.durable (compaction_of s) durable → IsSnapshotSound (compacted s (Failed durable))
sound-compaction_failed s durable sound either = by s.durable refl either
  where
    by : (r : Option (List ℕ)) → s.durable ≡ r → KeepsEither r (compaction_of s) durable → IsSnapshotSound (compacted s (Failed durable))
    by None is none k at = absurd (let no : None ≡ Some k = sym none ∙ at in cc)
    by (Some old) is (inl same) k at =
        let e : old ≡ k = some-same _ _ (sym same ∙ at) in
        stopped-kept s (compacted s (Failed durable)) old k (sound old is) (λ kind. refl) (λ kind. let f : last_clock kind old ≡ last_clock kind k = ap (last_clock kind) e in omega (arith, f)) refl
    by (Some old) is (inr same) k at =
        let e : compaction_of s ≡ k = some-same _ _ (sym same ∙ at) in
        record {
          at_least = λ kind. let f : last_clock kind k ≡ last_line kind s = ap (last_clock kind) (sym e) ∙ clock-compacted s old (sound old is) kind in omega (arith, f);
          equal = λ x. absurd (true≢false x);
          whole = λ x. absurd (true≢false x);
        }

-- a change of the plan changes no line
pub sound-planned : (s : SnapshotView) (change : FailurePlan → FailurePlan) → IsSnapshotSound s → IsSnapshotSound (with_sink s.durable change s)
sound-planned s change sound durable at =
    let h = sound durable at in
    record { at_least = h.at_least; equal = h.equal; whole = h.whole }
