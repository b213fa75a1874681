-- An agent that keeps its events continues to accept what is new and within its window, whatever it does. This holds of
-- events and of queries.
use Rattle.serf_model.proofs.Names.{Bool, List, None, Ok, Option, Result, Some, [], ap, arith, cond, false, inl, inr, refl, subst, sym, true, unwrap_or, ℕ, ◌&&◌, ◌++◌, ◌+◌, ◌<◌, ◌∙◌, ◌≡◌, ◌≤◌, cases_lt, All-append, All-contains, All-contains_itself, All-nil, All-weaker, All, Contains, slice_get, decoded, Message, PushPull, push_pull, WireError, EventBody, is_whole, Device, FailurePlan, fresh_device, min_in, Kept, Writing, event_of, TimedEntry, ended, planned, fire, IdealAgent, Past, Track, HasMet, IsFull, IsMet, KeepsSettings, TellsNoneAbove, stood_after, IsDurable, MayGoOn, whatever, Opens, Takes, events_of, handed_by, hear, heard_by, merge_refusal, receive_one, written_min_line, IsOpenAt, TakesOrFull, TakingLaws, TrackOf, event_track, query_track, Config, EventOut, MergeError, Below, IdealNode, apply, merges_as, merges_events, merges_given, merges_heard, text_after, with_plan, is_stopped, min_written_by, state_clock, IsRepresentable, tailed_by, given_by, Act, Of}
use Rattle.serf_agent.specs.Lives.{Act as LifeAct, after}
use Rattle.serf_model.specs.declared.action.Act.TheVariants as acts
use Rattle.serf_model.specs.declared.line.Answer.TheVariants as answers
use Rattle.serf_model.specs.declared.line.Refusal.TheVariants as refusals
use Rattle.serf_model.proofs.CallsKept.{kept-or-failed}
use Rattle.serf_model.proofs.DurableKept.{durable-planned, durable-step}
use Rattle.serf_model.proofs.LifeActs.{FitsAct, Keeping, Outs, Splits, nothing-splits, outs-split}
use Rattle.serf_model.proofs.ReadyLaws.{IsReady}
use Rattle.serf_model.proofs.SaidTexts.{DurableSays}
use Rattle.serf_model.proofs.SaysKept.{fired-outs, gets-outs, says-after}

-- ---- what was met

-- everything that was met in the first lists was met in the second ones
abbrev pub Wider : {K : Type 0} → List (TimedEntry K) → List (TimedEntry K) → List (TimedEntry K) → List (TimedEntry K) → Type 0
Wider {K} handed stood handed_more stood_more = (e : TimedEntry K) → IsMet handed stood e → IsMet handed_more stood_more e

has-met-wider : {K : Type 0} (k t : ℕ) (handed stood handed_more stood_more : List (TimedEntry K)) → Wider handed stood handed_more stood_more → HasMet k t handed stood → HasMet k t handed_more stood_more
has-met-wider {K} k t handed stood handed_more stood_more wider h = record {
  entries = h.entries;
  many = h.many;
  distinct = h.distinct;
  met = All-weaker (λ (e : TimedEntry K). (e.time ≡ t) × IsMet handed stood e) (λ (e : TimedEntry K). (e.time ≡ t) × IsMet handed_more stood_more e) (λ e m. (m.0, wider e m.1)) h.entries h.met;
}

pub full-wider : {K : Type 0} (k t : ℕ) (handed stood handed_more stood_more : List (TimedEntry K)) → Wider handed stood handed_more stood_more → IsFull k t handed stood → IsFull k t handed_more stood_more
full-wider k t handed stood handed_more stood_more wider (inl h) = inl (has-met-wider k t handed stood handed_more stood_more wider h)
full-wider k t handed stood handed_more stood_more wider (inr h) = inr (h.0, h.1, has-met-wider (k + 1) h.0 handed stood handed_more stood_more wider h.2)

pub goes-wider : {K : Type 0} (which : TrackOf K) (t : ℕ) (config : Config) (handed stood handed_more stood_more : List (TimedEntry K)) (i : IdealAgent) → Wider handed stood handed_more stood_more → TakesOrFull which t config handed stood i → TakesOrFull which t config handed_more stood_more i
goes-wider {K} which t config handed stood handed_more stood_more i wider (inl s) = inl (record {
  settings = s.settings;
  opens = record {
    last = s.opens.last;
    known = All-weaker (λ (p : Past K). IsMet handed stood p.entry) (λ (p : Past K). IsMet handed_more stood_more p.entry) (λ p m. wider p.entry m) (which.track i).history s.opens.known;
    minimum = s.opens.minimum;
    lowest = s.opens.lowest;
  };
})
goes-wider which t config handed stood handed_more stood_more i wider (inr full) = inr (full-wider config.per_time t handed stood handed_more stood_more wider full)

-- ---- an act of a life

-- P holds of everything in a text on which an act opens
abbrev pub OpensOnly : {K : Type 0} → TrackOf K → (TimedEntry K → Type 0) → LifeAct → Type 0
OpensOnly which P (Opens config text d) = All P (which.kept whatever text)
OpensOnly which P x = Unit {0}

-- An act keeps the settings, and sets no minimum above t. P holds of what it enters, and of what it opens on.
pub record IsFit {K : Type 0} (which : TrackOf K) (t : ℕ) (P : TimedEntry K → Type 0) (i : IdealAgent) (x : LifeAct) : Type 0 where
  pub settings : KeepsSettings i.config x
  pub lowest : TellsNoneAbove which t i x
  pub entered : All P (which.entered i x)
  pub opens : OpensOnly which P x

-- everything that was met in a fit act is among what was met
met-all : {K : Type 0} (which : TrackOf K) (t : ℕ) (H S : List (TimedEntry K)) (i : IdealAgent) (x : LifeAct) → IsFit which t (IsMet H S) i x → Wider (H ++ which.entered i x) (stood_after which S x) H S
met-all which t H S i x fits e (inl h) =
    All-contains (IsMet H S) (H ++ which.entered i x) e (All-append (IsMet H S) H (which.entered i x) (All-weaker (Contains H) (IsMet H S) (λ y there. inl there) H (All-contains_itself H)) fits.entered) h
met-all which t H S i x fits e (inr h) = All-contains (IsMet H S) (stood_after which S x) e (stood x fits.opens) h
  where
    old : All (IsMet H S) S
    old = All-weaker (Contains S) (IsMet H S) (λ y there. inr there) S (All-contains_itself S)

    stood : (x : LifeAct) → OpensOnly which (IsMet H S) x → All (IsMet H S) (stood_after which S x)
    stood (Opens config text d) opens = All-append (IsMet H S) S (which.kept whatever text) old opens
    stood _ opens = old

pub takes-step : {K : Type 0} (which : TrackOf K) → TakingLaws which → (t : ℕ) (config : Config) (H S : List (TimedEntry K)) → config.keep_events ≡ true → 0 < t → (i : IdealAgent) (x : LifeAct) → IsReady i → IsDurable i → TakesOrFull which t config H S i → MayGoOn i x
    → IsFit which t (IsMet H S) i x → TakesOrFull which t config H S (after i x)
takes-step which laws t config H S on some i x r d (inr full) go fits = inr full
takes-step which laws t config H S on some i x r d (inl takes) go fits =
    goes-wider which t config (H ++ which.entered i x) (stood_after which S x) H S (after i x) (met-all which t H S i x fits)
    (laws.stays t config H S i x on some r.consistent.sound d takes go (subst (λ (c : Config). KeepsSettings c x) takes.settings fits.settings) fits.lowest)

-- a tail whose lines set no minimum above t
pub tail-tells : {K : Type 0} (which : TrackOf K) → Below → (t : ℕ) (i : IdealAgent) (tail : List ℕ) (config : Config) (d : Device) → ((durable : List ℕ) → i.snapshot.durable ≡ Some durable → is_whole durable ≡ true) → min_in which.kind tail ≤ t
    → TellsNoneAbove which t i (Opens config (text_after i tail) d)
tail-tells which lower t i tail config d whole lowest durable at =
    let text : min_in which.kind (text_after i tail) ≡ min_in which.kind (durable ++ tail) = ap (λ (k : Option (List ℕ)). min_in which.kind (unwrap_or k [] ++ tail)) at in
    let both = lower.keeps.min_joined which.kind durable tail (whole durable at) in
    elim (cases_lt t (min_in which.kind (text_after i tail))) [
      | inl above ↦ inl (omega (arith, above, text, both, lowest))
      | inr under ↦ inr (omega (arith, under))
    ]

-- ---- an action

-- what a merge hands out shows what it enters in a track, and another plan of failures doesn't change this track
pub record Shows {K : Type 0} (which : TrackOf K) (P : TimedEntry K → Type 0) : Type 1 where
  pub Handing : List EventOut → Type 0
  pub splits : Splits Handing
  pub takes : (i : IdealAgent) (e : TimedEntry EventBody) (w : Writing) → Handing (handed_by (ended i (receive_one i e) w).answer) → All P (which.entered i (Takes e w))
  pub same : (i : IdealAgent) (change : FailurePlan → FailurePlan) → which.track (with_plan change i) ≡ which.track i

abbrev pub event_shows : (P : TimedEntry EventBody → Type 0) → Shows event_track P
event_shows P = record { Handing = Outs P; splits = outs-split P; takes = λ i e w outs. outs; same = λ i change. refl }

abbrev pub query_shows : (P : TimedEntry ℕ → Type 0) → Shows query_track P
query_shows P = record { Handing = λ outs. Unit {0}; splits = nothing-splits; takes = λ i e w outs. All-nil P; same = λ i change. refl }

pub planned-takes : {K : Type 0} (which : TrackOf K) (t : ℕ) (config : Config) (H S : List (TimedEntry K)) (i : IdealAgent) (change : FailurePlan → FailurePlan) → which.track (with_plan change i) ≡ which.track i → TakesOrFull which t config H S i
    → TakesOrFull which t config H S (with_plan change i)
planned-takes which t config H S i change same (inr full) = inr full
planned-takes {K} which t config H S i change same (inl s) = inl (record {
  settings = s.settings;
  opens = subst (λ (track : Track K). IsOpenAt which.kind (which.slots config) t H S track (with_plan change i).snapshot) (sym same)
      (record { last = s.opens.last; known = s.opens.known; minimum = s.opens.minimum; lowest = λ durable at. s.opens.lowest durable at });
})

-- an agent with these settings that keeps its events accepts what arrives at this time, if everything that is ever met
-- is in H and S
abbrev pub taking : {K : Type 0} (which : TrackOf K) → Below → TakingLaws which → (t : ℕ) (config : Config) (H S : List (TimedEntry K)) → config.keep_events ≡ true → 0 < t → Shows which (IsMet H S) → Keeping
taking which lower laws t config H S on some shows = record {
  Has = λ i. IsDurable i × TakesOrFull which t config H S i;
  Fits = IsFit which t (IsMet H S);
  Handing = shows.Handing;
  step = λ i x r has go fits. (durable-step lower i x r has.0 go, takes-step which laws t config H S on some i x r has.0 has.1 go fits);
  takes = λ i e w outs. record { settings = tt; lowest = tt; entered = shows.takes i e w outs; opens = tt };
  splits = shows.splits;
  replanned = λ i change has. (durable-planned i change has.0, planned-takes which t config H S i change (shows.same i change) has.1);
}

-- ---- the acts of events

-- a merge whose clocks were merged isn't refused with `Stopped`
pub not-stopped : (m : IdealNode) (es : List (TimedEntry EventBody)) (s : PushPull) (join : Bool) → is_stopped (merges_heard m es (planned m.agent (hear m.agent s join))).done.answer ≡ false
not-stopped m es s join = by (written_min_line m.agent.config s join)
  where
    failed : (b : Bool) → is_stopped (cond b (answers.Refused refusals.SinkError) answers.Merged) ≡ false
    failed true = refl
    failed false = refl

    by : (line : Option (List ℕ)) → is_stopped (merges_heard m es (planned m.agent (heard_by line m.agent s join))).done.answer ≡ false
    by None = failed (merges_events es (planned m.agent (heard_by None m.agent s join)).agent).failed
    by (Some line) =
        kept-or-failed (λ o. is_stopped (merges_heard m es o).done.answer ≡ false) m.agent (heard_by (Some line) m.agent s join) (failed (merges_events es (ended m.agent (heard_by (Some line) m.agent s join) Kept).agent).failed) (λ d. refl)

-- a minimum that is set only under a condition
pub if-told : (b : Bool) (x t : ℕ) → cond b x 0 ≤ t → b ≡ true → x ≤ t
if-told true x t told on = told
if-told false x t told on = absurd (cc on)

-- a state that is merged sets no minimum above t
merge-lowest : (m : IdealNode) (a number : ℕ) (join : Bool) (given : Option (List ℕ)) (packet : List ℕ) (s : PushPull) (t : ℕ) → given ≡ Some packet → decoded packet ≡ Ok (push_pull s) → merge_refusal m.agent.snapshot (decoded packet) ≡ None
    → cond (is_stopped (merges_given m join given).done.answer) 0 (min_written_by m.agent.config (Of a (acts.Merge number join)) given) ≤ t → (join && m.agent.config.ignore_old) ≡ true → s.event_clock ≤ t
merge-lowest m a number join given packet s t at is runs lowest =
    if-told (join && m.agent.config.ignore_old) s.event_clock t (subst (λ (b : Bool). cond b 0 (cond (join && m.agent.config.ignore_old) s.event_clock 0) ≤ t) goes says)
  where
    goes : is_stopped (merges_as (merge_refusal m.agent.snapshot (decoded packet)) m join (decoded packet)).done.answer ≡ false
    goes =
        ap (λ (f : Option MergeError). is_stopped (merges_as f m join (decoded packet)).done.answer) runs ∙ ap (λ (r : Result Message WireError). is_stopped (merges_as None m join r).done.answer) is
        ∙ not-stopped m (events_of s.slots) s join

    says : cond (is_stopped (merges_as (merge_refusal m.agent.snapshot (decoded packet)) m join (decoded packet)).done.answer) 0 (cond (join && m.agent.config.ignore_old) s.event_clock 0) ≤ t
    says =
        subst (λ (c : ℕ). cond (is_stopped (merges_as (merge_refusal m.agent.snapshot (decoded packet)) m join (decoded packet)).done.answer) 0 (cond (join && m.agent.config.ignore_old) c 0) ≤ t) (ap state_clock is)
        (subst (λ (g : Option (List ℕ)). cond (is_stopped (merges_given m join g).done.answer) 0 (min_written_by m.agent.config (Of a (acts.Merge number join)) g) ≤ t) at lowest)

-- an action is fit, as far as events are concerned, if P holds of what it hands out, and of what is in its tail
pub events-fit : Below → (t : ℕ) (P : TimedEntry EventBody → Type 0) (m : IdealNode) (sent : List (List ℕ)) (a : ℕ) (act : Act) → IsRepresentable m.agent
    → cond (is_stopped (apply m sent act).done.answer) 0 (min_written_by m.agent.config (Of a act) (given_by sent act)) ≤ t → DurableSays P m.agent.snapshot → Outs P (apply m sent act).done.events → All P (tailed_by (Of a act))
    → FitsAct (IsFit event_track t P) (Outs P) m sent act
events-fit lower t P m sent a (acts.Fire name payload coalesce) r lowest says outs tailed =
    record { settings = tt; lowest = tt; entered = fired-outs P (planned m.agent (fire m.agent (event_of name payload) coalesce)).answer outs; opens = tt }
events-fit lower t P m sent a (acts.Deliver number now) r lowest says outs tailed = λ packet at. record {
  settings = tt;
  lowest = tt;
  entered = gets-outs P m now (slice_get sent number) packet at outs;
  opens = tt;
}
events-fit lower t P m sent a (acts.Merge number join) r lowest says outs tailed =
    (λ packet s at is runs. record { settings = tt; lowest = merge-lowest m a number join (slice_get sent number) packet s t at is runs lowest; entered = All-nil P; opens = tt }, outs)
events-fit lower t P m sent a (acts.Query q) r lowest says outs tailed = record { settings = tt; lowest = tt; entered = All-nil P; opens = tt }
events-fit lower t P m sent a (acts.Restart tail) r lowest says outs tailed = record {
  settings = refl;
  lowest = tail-tells event_track lower t m.agent tail m.agent.config (fresh_device (text_after m.agent tail)) (λ durable at. (says durable at).whole) lowest;
  entered = All-nil P;
  opens = says-after lower P m.agent tail r.consistent.observable.durable says tailed;
}
events-fit lower t P m sent a (acts.Close now) r lowest says outs tailed = record { settings = tt; lowest = tt; entered = All-nil P; opens = tt }
events-fit lower t P m sent a acts.Save r lowest says outs tailed = record { settings = tt; lowest = tt; entered = All-nil P; opens = tt }
events-fit lower t P m sent a acts.Compact r lowest says outs tailed = record { settings = tt; lowest = tt; entered = All-nil P; opens = tt }
events-fit lower t P m sent a _ r lowest says outs tailed = tt
