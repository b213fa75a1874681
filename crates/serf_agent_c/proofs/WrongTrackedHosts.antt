-- Small lives of a host in C that tracks its handlers and breaks what it is promised, or what it owes, and the proofs that the
-- promises and the definitions refuse them. A definition that was changed so that it promises nothing doesn't pass here.
use Rattle.serf_agent_c.proofs.Names.{All, All-cons, All-contains, All-head, All-nil, AllPairs, Bool, Burst, BurstCall, Code, Contains, EventBody, Export, List, Session, Settings, Some, TimedEntry, TimedEvent, [], ap, arith, false, inl, inr, is_ready, length, refl, subst, sym, true, ℕ, ◌++◌, ◌+◌, ◌<◌, ◌∙◌, ◌∷◌, ◌≡◌, ◌≢◌, ◌≤◌}
use Rattle.serf_snapshot.specs.Clocks.{lines_of}
use Rattle.serf_snapshot.specs.HandlerLaws.{Waits}
use Rattle.serf_snapshot.specs.Handlers.{handed_of_line, open_event, open_events}
use Rattle.serf_snapshot.specs.declared.handlers.OpenEvent.{OpenEvent}
use Rattle.serf_agent_c.specs.TrackedHosts.{Begins, Calls, Dies, Ends, Lives, MayDo, Renames, TrackedDeed, TrackedHost, Writes, counted, first_tracked, handed_by, text_now, tracked}
use Rattle.serf_agent_c.specs.TrackedPromises.{BeginsOnce, BeginsWaiting, AllOpenNew, Along, HandsOutNew, HoldsBack, NoSilence, OpenBounded, OpensNew, begun_in}

true-false : true ≡ false → ⊥
true-false same = cc same

-- a host whose file lost an open event, say at a compaction
pub silence_refuses : (name : List ℕ) (settings : Settings) (text : List ℕ) (t : Session) (deeds : List TrackedDeed) (o : OpenEvent) → Lives name settings text t deeds → counted (tracked (first_tracked text t) deeds) ≡ o ∷ [] → open_events (text_now (tracked (first_tracked text t) deeds)) ≡ [] → NoSilence → ⊥
silence_refuses name settings text t deeds o lives open_still none promise = let same : [] ≡ o ∷ [] = sym none ∙ promise name settings text t deeds lives ∙ open_still in cc

-- one whose file reports a handler that began as one that waits
pub begun_refuses : (name : List ℕ) (settings : Settings) (text : List ℕ) (t : Session) (deeds : List TrackedDeed) (e : TimedEvent) → Lives name settings text t deeds → counted (tracked (first_tracked text t) deeds) ≡ open_event e true ∷ [] → open_events (text_now (tracked (first_tracked text t) deeds)) ≡ open_event e false ∷ [] → NoSilence → ⊥
begun_refuses name settings text t deeds e lives begun waits promise = let same : open_event e false ∷ [] ≡ open_event e true ∷ [] = sym waits ∙ promise name settings text t deeds lives ∙ begun in true-false (ap has_first (sym same))
  where
    has_first : List OpenEvent → Bool
    has_first [] = false
    has_first (o ∷ rest) = o.has_begun

-- one to which an event is handed out again
pub new_refuses : (name : List ℕ) (settings : Settings) (text : List ℕ) (first t : Session) (deeds : List TrackedDeed) (e : Export) (code : Code) (x : TimedEntry EventBody) → Lives name settings text first deeds → MayDo name (tracked (first_tracked text first) deeds) (Calls e t code)
    → handed_by e (tracked (first_tracked text first) deeds).host.session t ≡ x ∷ [] → Contains (tracked (first_tracked text first) deeds).host.given x → HandsOutNew → ⊥
new_refuses name settings text first t deeds e code x lives may handed given promise =
    let h = tracked (first_tracked text first) deeds in
    All-head (λ (y : TimedEntry EventBody). Contains h.host.given y → ⊥) x [] (subst (All (λ (y : TimedEntry EventBody). Contains h.host.given y → ⊥)) handed (promise name settings text first t deeds e code lives may)) given

-- one that begins an event twice
pub once_refuses : (name : List ℕ) (settings : Settings) (text : List ℕ) (t : Session) (deeds : List TrackedDeed) (e : TimedEvent) → Lives name settings text t deeds → Along BeginsWaiting (first_tracked text t) deeds → AllOpenNew [] (first_tracked text t) deeds → begun_in deeds ≡ e ∷ e ∷ [] → BeginsOnce → ⊥
once_refuses name settings text t deeds e lives waits opens twice promise =
    let once : AllPairs (λ x y. x ≢ y) (e ∷ e ∷ []) = subst (λ (l : List TimedEvent). AllPairs (λ x y. x ≢ y) l) twice (promise name settings text t deeds lives waits opens) in
    once 0 1 e (omega arith) (omega arith) refl

-- one that has too many open events
pub bounded_refuses : (name : List ℕ) (settings : Settings) (text : List ℕ) (t : Session) (deeds : List TrackedDeed) (limit most : ℕ) → Lives name settings text t deeds → length (open_events text) ≤ limit + most → Along (HoldsBack limit most) (first_tracked text t) deeds
    → limit + most < length (open_events (text_now (tracked (first_tracked text t) deeds))) → OpenBounded → ⊥
bounded_refuses name settings text t deeds limit most lives few back many promise = let low = promise name settings text t deeds limit most lives few back in absurd (omega (arith, low, many))

-- ---- what such a host may not do

-- write its own line while the line of an event is pending, which would then be below it
pub early_refused : (name : List ℕ) (h : TrackedHost) (e : TimedEvent) → is_ready h.host.session ≡ false → MayDo name h (Ends e) → ⊥
early_refused name h e pending may = true-false (sym may.0 ∙ pending)

-- hand out events in a burst while a compaction is pending: their lines would be above its line `#done TIME`
pub burst_refused : (name : List ℕ) (h : TrackedHost) (call : BurstCall) (t : Session) (code : Code) → h.host.session.replaces ≡ true → MayDo name h (Calls (Burst call) t code) → ⊥
burst_refused name h call t code replaces may = true-false (sym replaces ∙ may.1)

-- confirm a compaction whose text hasn't replaced the file, or rename a text that no compaction left
pub unrenamed_refused : (name : List ℕ) (h : TrackedHost) (t : Session) → h.host.session.replaces ≡ true → h.renamed ≡ false → MayDo name h (Writes t) → ⊥
unrenamed_refused name h t replaces not_renamed may = true-false (sym replaces ∙ sym may.1 ∙ not_renamed)

pub uncompacted_refused : (name : List ℕ) (h : TrackedHost) (time : ℕ) (more : List ℕ) → h.host.session.replaces ≡ false → MayDo name h (Renames time more) → ⊥
uncompacted_refused name h time more other may = true-false (sym may.0 ∙ other)

-- keep no events in a later life
pub unkept_refused : (name : List ℕ) (h : TrackedHost) (settings : Settings) (tail : List ℕ) (t : Session) → settings.keep_events ≡ false → MayDo name h (Dies settings tail t) → ⊥
unkept_refused name h settings tail t other may = true-false (sym may.1 ∙ other)

-- begin what has begun already
pub begun_again_refused : (h : TrackedHost) (e : TimedEvent) → open_events (text_now h) ≡ open_event e true ∷ [] → BeginsWaiting h (Begins e) → ⊥
begun_again_refused h e begun waits =
    let other : open_event e true ≢ open_event e false = λ same. true-false (ap (λ (o : OpenEvent). o.has_begun) same) in
    All-contains (λ (o : OpenEvent). o ≢ open_event e false) (open_event e true ∷ []) (open_event e false) (All-cons (λ (o : OpenEvent). o ≢ open_event e false) (open_event e true) [] other (All-nil (λ (o : OpenEvent). o ≢ open_event e false))) (subst (λ (l : List OpenEvent). Waits l e) begun waits) refl

-- die with a tail that hands out again what has begun
pub reopening_refused : (h : TrackedHost) (settings : Settings) (tail line : List ℕ) (t : Session) (e : TimedEvent) → Contains (lines_of (h.tail ++ tail)) line → handed_of_line line ≡ Some e → OpensNew (e ∷ []) h (Dies settings tail t) → ⊥
reopening_refused h settings tail line t e there handed opens =
    All-contains (λ (line : List ℕ). handed_of_line line ≢ Some e) (lines_of (h.tail ++ tail)) line (All-head (λ (e : TimedEvent). All (λ (line : List ℕ). handed_of_line line ≢ Some e) (lines_of (h.tail ++ tail))) e [] opens) there handed

-- take one more event at the limit
pub full_refused : (limit most : ℕ) (h : TrackedHost) (e : Export) (t : Session) (code : Code) (x : TimedEntry EventBody) → limit ≤ length (counted h) → handed_by e h.host.session t ≡ x ∷ [] → HoldsBack limit most h (Calls e t code) → ⊥
full_refused limit most h e t code x full handed (inl none) = let no : [] ≡ x ∷ [] = sym none ∙ handed in cc
full_refused limit most h e t code x full handed (inr back) = let low = back.0 in absurd (omega (arith, full, low))
