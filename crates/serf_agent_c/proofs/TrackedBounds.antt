-- A host that holds back never has more open events than its limit and what one call hands out.
use Rattle.serf_agent_c.proofs.Names.{Bool, EventBody, List, TimedEntry, TimedEvent, [], ap, arith, cond, false, filter, inl, inr, length, true, ℕ, ◌++◌, ◌+◌, ◌∷◌, ◌≡◌, ◌≤◌, not, nat_lt}
use Rattle.std.proofs.lemmas.List.{length-append, length-map}
use Rattle.serf_snapshot.specs.Clocks.{lines_of}
use Rattle.serf_snapshot.specs.Handlers.{is_open, mark_begun, mark_begun_if, mark_done, mark_done_up_to, mark_handed, open_after_lines, open_event, same_event}
use Rattle.serf_snapshot.specs.declared.handlers.OpenEvent.{OpenEvent}
use Rattle.serf_agent_c.specs.TrackedHosts.{Appends, Begins, Calls, Dies, Ends, EndsUpTo, Renames, TrackedDeed, TrackedHost, Writes, counted, did, event_of_entry, first_tracked, handed_by, mark_all_handed, tracked}
use Rattle.serf_agent_c.specs.TrackedPromises.{Along, HoldsBack, NoSilence, OpenBounded}

one-more : (e : TimedEvent) (open_list : List OpenEvent) → length (mark_handed e open_list) ≤ length open_list + 1
one-more e open_list = by (is_open e open_list)
  where
    by : (b : Bool) → length (cond b open_list (open_list ++ open_event e false ∷ [])) ≤ length open_list + 1
    by true = omega arith
    by false = omega (arith, length-append open_list (open_event e false ∷ []))

all-more : (es : List (TimedEntry EventBody)) (open_list : List OpenEvent) → length (mark_all_handed es open_list) ≤ length open_list + length es
all-more [] open_list = omega arith
all-more (e ∷ es) open_list = omega (arith, one-more (event_of_entry e) open_list, all-more es (mark_handed (event_of_entry e) open_list))

filter-less : (p : OpenEvent → Bool) (open_list : List OpenEvent) → length (filter p open_list) ≤ length open_list
filter-less p [] = omega arith
filter-less p (o ∷ rest) = by (p o) (filter-less p rest)
  where
    by : (b : Bool) → length (filter p rest) ≤ length rest → length (cond b (o ∷ filter p rest) (filter p rest)) ≤ length (o ∷ rest)
    by true less = omega (arith, less)
    by false less = omega (arith, less)

abbrev IsBounded : ℕ → TrackedHost → Type 0
IsBounded n h = length (counted h) + length h.pending ≤ n

step : (limit most : ℕ) (h : TrackedHost) (deed : TrackedDeed) → IsBounded (limit + most) h → HoldsBack limit most h deed → IsBounded (limit + most) (did h deed)
step limit most h (Calls e t code) bounded (inl none) =
    let long : length (h.pending ++ handed_by e h.host.session t) ≡ length h.pending + length (handed_by e h.host.session t) = length-append h.pending (handed_by e h.host.session t) in
    let no : length (handed_by e h.host.session t) ≡ 0 = ap (λ (es : List (TimedEntry EventBody)). length es) none in
    omega (arith, bounded, long, no)
step limit most h (Calls e t code) bounded (inr back) =
    let long : length (h.pending ++ handed_by e h.host.session t) ≡ length h.pending + length (handed_by e h.host.session t) = length-append h.pending (handed_by e h.host.session t) in
    let low = back.0 in
    let few = back.1 in
    omega (arith, low, few, long)
step limit most h (Writes t) bounded back = let more = all-more h.pending (counted h) in omega (arith, bounded, more)
step limit most h (Renames time more) bounded back = bounded
step limit most h (Begins e) bounded back = let same : length (mark_begun e (counted h)) ≡ length (counted h) = length-map (counted h) (mark_begun_if e) in omega (arith, bounded, same)
step limit most h (Ends e) bounded back = let less : length (mark_done e (counted h)) ≤ length (counted h) = filter-less (λ (o : OpenEvent). not (same_event e o.event)) (counted h) in omega (arith, bounded, less)
step limit most h (EndsUpTo time) bounded back = let less : length (mark_done_up_to time (counted h)) ≤ length (counted h) = filter-less (λ (o : OpenEvent). nat_lt time o.event.time) (counted h) in omega (arith, bounded, less)
step limit most h (Appends lines) bounded back = bounded
step limit most h (Dies settings tail t) bounded back = let low : length (open_after_lines h.open_list (lines_of (h.tail ++ tail))) ≤ length (counted h) + length h.pending = back in omega (arith, bounded, low)

all : (limit most : ℕ) (h : TrackedHost) (deeds : List TrackedDeed) → IsBounded (limit + most) h → Along (HoldsBack limit most) h deeds → IsBounded (limit + most) (tracked h deeds)
all limit most h [] bounded back = bounded
all limit most h (deed ∷ rest) bounded back = all limit most (did h deed) rest (step limit most h deed bounded back.0) back.1

pub open_bounded : NoSilence → OpenBounded
open_bounded silence = λ name settings text t deeds limit most lives few back.
    let h = tracked (first_tracked text t) deeds in
    let begins : IsBounded (limit + most) (first_tracked text t) = omega (arith, few) in
    let bounded = all limit most (first_tracked text t) deeds begins back in
    let is = ap (λ (l : List OpenEvent). length l) (silence name settings text t deeds lives) in
    omega (arith, bounded, is)
