-- If a sink has a plan, there is exactly one thing that it may do.
use Rattle.serf_snapshot.proofs.Names.{Bool, IfSome, IsSome, List, None, Option, Some, ap, arith, cond, false, inl, inr, nat_le, refl, subst, sym, true, ℕ, ◌==◌, ◌≡◌, cases_Bool, true≢false, common_steps, option_map, is_whole, sealed, Device, FailurePlan, Observable, replace_decremented, Failed, IsObservable, KeepsEither, KeepsPart, Kept, MayReplace, MayWrite, SnapshotView, Writing, compacted, compaction_of, durable_left_by, last_line, append_line_decremented, append_line_fails, noted, opened, will_replace, will_write, with_sink, written, ClockKind}

pub will_write-only : (s : SnapshotView) (line : List ℕ) (w : Writing) → IsSome s.plan → MayWrite s line w → w ≡ will_write s
will_write-only s line Kept some may = by s.plan refl
  where
    by : (r : Option FailurePlan) → s.plan ≡ r → Kept ≡ will_write s
    by None is = absurd (true≢false (sym (subst IsSome is some)))
    by (Some p) is = let no : append_line_fails p ≡ false = subst (λ (o : Option FailurePlan). IfSome o (λ q. append_line_fails q ≡ false)) is may in rw (is, no) refl
will_write-only s line (Failed durable) some may = by s.plan refl
  where
    by : (r : Option FailurePlan) → s.plan ≡ r → Failed durable ≡ will_write s
    by None is = absurd (true≢false (sym (subst IsSome is some)))
    by (Some p) is =
        let both : (append_line_fails p ≡ true) × (durable ≡ s.durable) = subst (λ (o : Option FailurePlan). IfSome o (λ q. (append_line_fails q ≡ true) × (durable ≡ s.durable))) is may.1 in
        rw (is, both.0) (ap Failed both.1)

keeps_nothing : (durable : Option (List ℕ)) (line : List ℕ) → KeepsPart durable line durable
keeps_nothing None line = refl
keeps_nothing (Some k) line = (0, grind (arith, common_steps))

pub will_write-may : (s : SnapshotView) (line : List ℕ) → IsSome s.plan → MayWrite s line (will_write s)
will_write-may s line some = by s.plan refl
  where
    by : (r : Option FailurePlan) → s.plan ≡ r → MayWrite s line (will_write s)
    by None is = absurd (true≢false (sym (subst IsSome is some)))
    by (Some p) is = elim (cases_Bool (append_line_fails p)) [
      | inl fails ↦ rw (is, fails) (keeps_nothing s.durable line, (fails, refl))
      | inr runs ↦ rw (is, runs) runs
    ]

pub will_replace-only : (s : SnapshotView) (w : Writing) → IsSome s.plan → MayReplace s w → w ≡ will_replace s
will_replace-only s Kept some may = by s.plan refl
  where
    by : (r : Option FailurePlan) → s.plan ≡ r → Kept ≡ will_replace s
    by None is = absurd (true≢false (sym (subst IsSome is some)))
    by (Some p) is = let no : (p.replaces == 1) ≡ false = subst (λ (o : Option FailurePlan). IfSome o (λ q. (q.replaces == 1) ≡ false)) is may in rw (is, no) refl
will_replace-only s (Failed durable) some may = by s.plan refl
  where
    by : (r : Option FailurePlan) → s.plan ≡ r → Failed durable ≡ will_replace s
    by None is = absurd (true≢false (sym (subst IsSome is some)))
    by (Some p) is =
        let both : ((p.replaces == 1) ≡ true) × (durable ≡ durable_left_by p (compaction_of s) s.durable) = subst (λ (o : Option FailurePlan). IfSome o (λ q. ((q.replaces == 1) ≡ true) × (durable ≡ durable_left_by q (compaction_of s) s.durable))) is may.1 in
        rw (is, both.0) (ap Failed both.1)

keeps_left : (p : FailurePlan) (text : List ℕ) (durable : Option (List ℕ)) → KeepsEither durable text (durable_left_by p text durable)
keeps_left p text durable = by p.keeps_new durable
  where
    by : (b : Bool) (k : Option (List ℕ)) → KeepsEither k text (cond b (option_map (λ (l : List ℕ). text) k) k)
    by true None = refl
    by false None = refl
    by true (Some k) = inr refl
    by false (Some k) = inl refl

pub will_replace-may : (s : SnapshotView) → IsSome s.plan → MayReplace s (will_replace s)
will_replace-may s some = by s.plan refl
  where
    by : (r : Option FailurePlan) → s.plan ≡ r → MayReplace s (will_replace s)
    by None is = absurd (true≢false (sym (subst IsSome is some)))
    by (Some p) is = elim (cases_Bool (p.replaces == 1)) [
      | inl fails ↦ rw (is, fails) (keeps_left p (compaction_of s) s.durable, (fails, refl))
      | inr runs ↦ rw (is, runs) runs
    ]

still_some : {A B : Type 0} (f : A → B) (o : Option A) → IsSome o → IsSome (option_map f o)
still_some f None h = h
still_some f (Some a) h = h

pub observable-opened : (text : List ℕ) (d : Device) → IsSome d.observed_bytes → IsSome d.plan → IsObservable (opened text d)
observable-opened text d observable plan = record { durable = still_some (λ (t : Observable). sealed text) d.observed_bytes observable; plan = by (is_whole text) }
  where
    by : (b : Bool) → IsSome (cond b d.plan (option_map append_line_decremented d.plan))
    by true = plan
    by false = still_some append_line_decremented d.plan plan

pub observable-planned : (s : SnapshotView) (change : FailurePlan → FailurePlan) → IsObservable s → IsObservable (with_sink s.durable change s)
observable-planned s change observable = record { durable = observable.durable; plan = still_some change s.plan observable.plan }

-- a sink that exposes its bytes still exposes them, whatever it may do
observable-written : (kind : ClockKind) (s : SnapshotView) (t : ℕ) (line : List ℕ) (w : Writing) → IsObservable s → MayWrite s line w → IsObservable (written kind t s w)
observable-written kind s t line Kept observable may = record { durable = still_some _ s.durable observable.durable; plan = still_some append_line_decremented s.plan observable.plan }
observable-written kind s t line (Failed durable) observable may = record { durable = by s.durable durable observable.durable may.0; plan = still_some append_line_decremented s.plan observable.plan }
  where
    by : (old new : Option (List ℕ)) → IsSome old → KeepsPart old line new → IsSome new
    by None new h part = absurd (true≢false (sym h))
    by (Some k) None h part = absurd part
    by (Some k) (Some n) h part = h

pub observable-noted : (kind : ClockKind) (s : SnapshotView) (t : ℕ) (line : List ℕ) (w : Writing) → IsObservable s → MayWrite s line w → IsObservable (noted kind t s w)
observable-noted kind s t line w observable may = by (nat_le t (last_line kind s))
  where
    by : (b : Bool) → IsObservable (cond b s (written kind t s w))
    by true = observable
    by false = observable-written kind s t line w observable may

pub observable-compacted : (s : SnapshotView) (w : Writing) → IsObservable s → MayReplace s w → IsObservable (compacted s w)
observable-compacted s Kept observable may = record { durable = still_some _ s.durable observable.durable; plan = still_some replace_decremented s.plan observable.plan }
observable-compacted s (Failed durable) observable may = record { durable = by s.durable durable observable.durable may.0; plan = still_some replace_decremented s.plan observable.plan }
  where
    by : (old new : Option (List ℕ)) → IsSome old → KeepsEither old (compaction_of s) new → IsSome new
    by None new h either = absurd (true≢false (sym h))
    by (Some k) new h (inl same) = subst IsSome (sym same) h
    by (Some k) new h (inr same) = subst IsSome (sym same) h
