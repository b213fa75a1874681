-- A host that tracks its handlers: its file reports exactly what was handed out and isn't done, over all its lives.
use Rattle.serf_agent_c.proofs.Names.{AgentState, BeginsWith, Bool, Calls, Code, ConcreteState, Config, DiffersInOtherLines, Dies, EventBody, Export, GoesOn, HasPast, Host, IsFresh, IsSound, List, None, Option, Session, Settings, Some, TimedEntry, Writes, [], ap, append-nil, append_assoc, cond, config_of, drop, false, first_life, fresh_device, inl, inr, is_ready, is_sound, is_whole, length, opened_device, pending_bytes, refl, replacing, subst, sym, text_at, text_of, true, ℕ, ◌&&◌, ◌++◌, ◌||◌, ◌∙◌, ◌∷◌, ◌≡◌, gives, shown, Device, Says}
use Rattle.std.proofs.lemmas.Bool.{cond-true}
use Rattle.serf_snapshot.specs.Clocks.{lines_of, sealed}
use Rattle.serf_snapshot.specs.HandlerLaws.{AreUntracked}
use Rattle.serf_snapshot.specs.Handlers.{begun_line, done_line, done_up_to_line, mark_begun, mark_done, mark_done_up_to, open_after_lines, open_events}
use Rattle.serf_snapshot.specs.OtherLines.{AreOtherLines}
use Rattle.serf_snapshot.specs.declared.handlers.OpenEvent.{OpenEvent}
use Rattle.serf_agent_c.specs.TrackedHosts.{Lives, MayTrack, TrackedDeed, TrackedHost, agent_bytes, counted, first_tracked, handed_by, mark_all_handed, text_now, tracked}
use Rattle.serf_agent_c.specs.TrackedHosts as tracks
use Rattle.serf_agent_c.specs.TrackedPromises.{NoSilence}
use Rattle.serf_agent_c.proofs.HostLaws.{ready-parts, sealed-so}
use Rattle.serf_agent_c.proofs.HostedCalls.{Below, IsHosted, not-replacing, told}
use Rattle.serf_agent_c.proofs.HostedLaws.{begins, does}
use Rattle.serf_agent_c.proofs.TrackedLines.{Handling, Hands, Reads, differs-compacted, differs-more, hands-both, hands-nothing, is_whole-append, open-joined, other-begun, other-done, other-done_up_to, reads-begun, reads-compacted, reads-done, reads-done_up_to, reads-hands, reads-silent, reads-tail, untracked-lines}
use Rattle.serf_agent_c.proofs.TrackedSteps.{Called, anew, appends, called, rest}

abbrev Events : Type 0
Events = List (TimedEntry EventBody)

abbrev bytes_of : Session → List ℕ
bytes_of s = pending_bytes s.agent.device s.written

-- what was handed out since the last confirmation is counted already, or nothing was
abbrev IsCounted : Events → List OpenEvent → Type 0
IsCounted pending open_list = mark_all_handed pending open_list ≡ open_list

-- A host's file and the agent's text: the lines of what was handed out are pending; or a text is to replace the file's; or it
-- has replaced it.
pub data State (s : Session) (own : List ℕ) (new : Option (List ℕ)) (file tail : List ℕ) (pending : Events) (open_list : List OpenEvent) (renamed : Bool) : Type 0 where
  plain : s.replaces ≡ false → renamed ≡ false → (more : List ℕ) → sealed (file ++ tail) ++ more ≡ (file ++ tail) ++ bytes_of s → Hands more pending → DiffersInOtherLines own (file ++ tail) → State s own new file tail pending open_list renamed
  compacting : s.replaces ≡ true → renamed ≡ false → new ≡ Some (bytes_of s) → AreUntracked (bytes_of s) → IsCounted pending (open_after_lines open_list (lines_of tail)) → is_whole (file ++ tail) ≡ true → DiffersInOtherLines own (file ++ tail) → State s own new file tail pending open_list renamed
  replaced : s.replaces ≡ true → renamed ≡ true → new ≡ Some (bytes_of s) → IsCounted pending (open_after_lines open_list (lines_of tail)) → tail ≡ [] → DiffersInOtherLines (bytes_of s) file → State s own new file tail pending open_list renamed

pub record Good (h : TrackedHost) : Type 0 where
  pub hosted : IsHosted h.host
  pub keeps : h.host.session.agent.concrete.config.keep_events ≡ true
  pub reads : Reads h.file h.open_list
  pub state : State h.host.session h.host.file h.host.new h.file h.tail h.pending h.open_list h.renamed

-- ---- parts

tail-is : (x : ℕ) (xs ys : List ℕ) → x ∷ xs ≡ x ∷ ys → xs ≡ ys
tail-is x xs ys same = cc same

cancel : (xs ys zs : List ℕ) → xs ++ ys ≡ xs ++ zs → ys ≡ zs
cancel [] ys zs same = same
cancel (x ∷ xs) ys zs same = cancel xs ys zs (tail-is x (xs ++ ys) (xs ++ zs) same)

ready-bytes : (s : Session) → is_ready s ≡ true → (s.replaces ≡ false) × (bytes_of s ≡ [])
ready-bytes s ready = ready-parts s.replaces (bytes_of s) ready

-- an agent's text is all in the file, which is then whole
whole-now : Handling → (file tail more bytes : List ℕ) (pending : Events) → sealed (file ++ tail) ++ more ≡ (file ++ tail) ++ bytes → Hands more pending → bytes ≡ [] → (is_whole (file ++ tail) ≡ true) × (sealed (file ++ tail) ≡ file ++ tail) × (more ≡ [])
whole-now laws file tail more bytes pending text hands none = (whole, same, cancel (file ++ tail) more [] (ap (λ (x : List ℕ). x ++ more) (sym same) ∙ at ∙ sym (append-nil (file ++ tail))))
  where
    at : sealed (file ++ tail) ++ more ≡ file ++ tail
    at = text ∙ ap (λ (x : List ℕ). (file ++ tail) ++ x) none ∙ append-nil (file ++ tail)

    whole : is_whole (file ++ tail) ≡ true
    whole = ap is_whole (sym at) ∙ is_whole-append (sealed (file ++ tail)) more (laws.sealed_whole (file ++ tail)) hands.whole

    same : sealed (file ++ tail) ≡ file ++ tail
    same = cond-true (is_whole (file ++ tail)) _ _ whole

now-reads : (laws : Handling) (file tail : List ℕ) (open_list : List OpenEvent) → Reads file open_list → sealed (file ++ tail) ≡ file ++ tail → Reads (file ++ tail) (open_after_lines open_list (lines_of tail))
now-reads laws file tail open_list r same = subst (λ (x : List ℕ). Reads x (open_after_lines open_list (lines_of tail))) same (reads-tail laws file tail open_list r)

-- what is pending is counted if its lines are no bytes
no-lines : (laws : Handling) (text : List ℕ) (open_list : List OpenEvent) (pending : Events) → Reads text open_list → Hands [] pending → IsCounted pending open_list
no-lines laws text open_list pending r hands =
    let more = reads-hands laws text [] open_list pending r hands in
    sym more.is ∙ ap open_events (append-nil text) ∙ r.is

-- everything is in the file
settled : (s : Session) (own : List ℕ) (new : Option (List ℕ)) (file : List ℕ) (pending : Events) (open_list : List OpenEvent) → s.replaces ≡ false → bytes_of s ≡ [] → is_whole file ≡ true → Hands [] pending → DiffersInOtherLines own file → State s own new file [] pending open_list false
settled s own new file pending open_list replaces none whole hands differs =
    let all : file ++ [] ≡ file = append-nil file in
    plain replaces refl [] (ap (λ (x : List ℕ). sealed x ++ []) all ∙ append-nil (sealed file) ∙ cond-true (is_whole file) _ _ whole ∙ sym (append-nil file) ∙ ap (λ (x : List ℕ). x ++ []) (sym all) ∙ ap (λ (x : List ℕ). (file ++ []) ++ x) (sym none)) hands
    (subst (DiffersInOtherLines own) (sym all) differs)

shown-state : (p : Host) (file tail : List ℕ) (pending : Events) (open_list : List OpenEvent) (renamed : Bool) → State p.session p.file p.new file tail pending open_list renamed → State (shown p).session (shown p).file (shown p).new file tail pending open_list renamed
shown-state p file tail pending open_list renamed state = by (p.fresh && is_ready p.session)
  where
    by : (b : Bool) → State (cond b (told p) p).session (cond b (told p) p).file (cond b (told p) p).new file tail pending open_list renamed
    by true = state
    by false = state

shown-keeps : (p : Host) → p.session.agent.concrete.config.keep_events ≡ true → (shown p).session.agent.concrete.config.keep_events ≡ true
shown-keeps p keeps = by (p.fresh && is_ready p.session)
  where
    by : (b : Bool) → (cond b (told p) p).session.agent.concrete.config.keep_events ≡ true
    by true = keeps
    by false = keeps

-- ---- a call

call-state : (laws : Handling) (own : List ℕ) (new : Option (List ℕ)) (file tail : List ℕ) (pending : Events) (open_list : List OpenEvent) (renamed : Bool) (s t : Session) (e : Export) (code : Code) → Reads file open_list → Says e s t code → tracks.MayCall e s → Called own s t e code → State s own new file tail pending open_list renamed
    → State t own (replacing new e t code) file tail (pending ++ handed_by e s t) open_list renamed
call-state laws own new file tail pending open_list renamed s t e code r says may (appends adds same) (plain replaces not_renamed more text hands differs) =
    let whole_text : own ++ bytes_of t ≡ own ++ (bytes_of s ++ adds.more) =
    ap (λ (b : Bool). cond b (bytes_of t) (own ++ bytes_of t)) (sym (adds.replaces ∙ replaces))
    ∙ adds.text
    ∙ ap (λ (b : Bool). cond b (bytes_of s) (own ++ bytes_of s) ++ adds.more) replaces
    ∙ append_assoc own (bytes_of s) adds.more in
    let bytes : bytes_of t ≡ bytes_of s ++ adds.more = cancel own (bytes_of t) (bytes_of s ++ adds.more) whole_text in
    plain (adds.replaces ∙ replaces) not_renamed (more ++ adds.more)
    (sym (append_assoc (sealed (file ++ tail)) more adds.more) ∙ ap (λ (x : List ℕ). x ++ adds.more) text ∙ append_assoc (file ++ tail) (bytes_of s) adds.more ∙ ap (λ (x : List ℕ). (file ++ tail) ++ x) (sym bytes))
    (hands-both more adds.more pending (handed_by e s t) hands adds.hands) differs
call-state laws own new file tail pending open_list renamed s t e code r says may (appends adds same) (compacting replaces not_renamed is untracked idle whole differs) =
    let at = rest e s t code says may replaces in
    compacting (adds.replaces ∙ replaces) not_renamed (same new ∙ is ∙ ap (λ (x : List ℕ). Some x) (sym at.0)) (subst AreUntracked (sym at.0) untracked) (ap (λ (es : Events). mark_all_handed (pending ++ es) (open_after_lines open_list (lines_of tail))) at.1 ∙ ap (λ (es : Events). mark_all_handed es (open_after_lines open_list (lines_of tail))) (append-nil pending) ∙ idle) whole differs
call-state laws own new file tail pending open_list renamed s t e code r says may (appends adds same) (replaced replaces is_renamed is idle ended differs) =
    let at = rest e s t code says may replaces in
    replaced (adds.replaces ∙ replaces) is_renamed (same new ∙ is ∙ ap (λ (x : List ℕ). Some x) (sym at.0)) (ap (λ (es : Events). mark_all_handed (pending ++ es) (open_after_lines open_list (lines_of tail))) at.1 ∙ ap (λ (es : Events). mark_all_handed es (open_after_lines open_list (lines_of tail))) (append-nil pending) ∙ idle) ended (subst (λ (x : List ℕ). DiffersInOtherLines x file) (sym at.0) differs)
call-state laws own new file tail pending open_list renamed s t e code r says may (anew ready replacing_now untracked config none is) (plain replaces not_renamed more text hands differs) =
    let now = whole-now laws file tail more (bytes_of s) pending text hands (ready-bytes s ready).1 in
    let idle : IsCounted pending (open_after_lines open_list (lines_of tail)) = no-lines laws (file ++ tail) (open_after_lines open_list (lines_of tail)) pending (now-reads laws file tail open_list r now.1) (subst (λ (x : List ℕ). Hands x pending) now.2 hands) in
    compacting replacing_now not_renamed (is new) untracked (ap (λ (es : Events). mark_all_handed (pending ++ es) (open_after_lines open_list (lines_of tail))) none ∙ ap (λ (es : Events). mark_all_handed es (open_after_lines open_list (lines_of tail))) (append-nil pending) ∙ idle) now.0 differs
call-state laws own new file tail pending open_list renamed s t e code r says may (anew ready replacing_now untracked config none is) (compacting replaces not_renamed at u idle whole differs) = absurd (not-replacing s ready replaces)
call-state laws own new file tail pending open_list renamed s t e code r says may (anew ready replacing_now untracked config none is) (replaced replaces is_renamed at idle ended differs) = absurd (not-replacing s ready replaces)

called-config : (file : List ℕ) (s t : Session) (e : Export) (code : Code) → Called file s t e code → t.agent.concrete.config ≡ s.agent.concrete.config
called-config file s t e code (appends adds same) = adds.config
called-config file s t e code (anew ready replaces untracked config none is) = config

step-call : (below : Below) (laws : Handling) (name : List ℕ) (h : TrackedHost) (e : Export) (t : Session) (code : Code) → Good h → tracks.MayDo name h (tracks.Calls e t code) → Good (tracks.did h (tracks.Calls e t code))
step-call below laws name h e t code g may =
    let s = h.host.session in
    let inside = g.hosted.inside in
    let keeps : inside.agent.config.keep_events ≡ true = sym (ap (λ (a : ConcreteState). a.config.keep_events) inside.follows.state) ∙ g.keeps in
    let c = called below laws inside.agent h.host.file s t e code inside.follows inside.durable keeps may.0.0 may.0.1 in
    let p : Host = record h.host { session = t; new = replacing h.host.new e t code; fresh = h.host.fresh || (gives e && is_ready s) } in
    record {
      hosted = does below name h.host (Calls e t code) g.hosted may.0;
      keeps = shown-keeps p (ap (λ (x : Config). x.keep_events) (called-config h.host.file s t e code c) ∙ g.keeps);
      reads = g.reads;
      state = shown-state p h.file h.tail (h.pending ++ handed_by e s t) h.open_list h.renamed (call-state laws h.host.file h.host.new h.file h.tail h.pending h.open_list h.renamed s t e code g.reads may.0.0 may.1 c g.state);
    }

-- ---- the confirmation

drop-all : (xs : List ℕ) → drop (length xs) xs ≡ []
drop-all [] = refl
drop-all (x ∷ xs) = drop-all xs

-- the file after a confirmation, and what it reports
record Written (s t : Session) (own : List ℕ) (file tail : List ℕ) (pending : Events) (open_list : List OpenEvent) (renamed : Bool) : Type 0 where
  reads : Reads (cond renamed (file ++ tail) ((file ++ tail) ++ bytes_of s)) (mark_all_handed pending (open_after_lines open_list (lines_of tail)))
  differs : DiffersInOtherLines (text_at own s) (cond renamed (file ++ tail) ((file ++ tail) ++ bytes_of s))

written : (laws : Handling) (s t : Session) (own : List ℕ) (new : Option (List ℕ)) (file tail : List ℕ) (pending : Events) (open_list : List OpenEvent) (renamed : Bool) → Reads file open_list → renamed ≡ s.replaces → State s own new file tail pending open_list renamed → Written s t own file tail pending open_list renamed
written laws s t own new file tail pending open_list renamed r same (plain replaces not_renamed more text hands differs) =
    let open_now = open_after_lines open_list (lines_of tail) in
    let all : List ℕ = (file ++ tail) ++ bytes_of s in
    let reads : Reads all (mark_all_handed pending open_now) = subst (λ (x : List ℕ). Reads x (mark_all_handed pending open_now)) text (reads-hands laws (sealed (file ++ tail)) more open_now pending (reads-tail laws file tail open_list r) hands) in
    let alike : DiffersInOtherLines (own ++ bytes_of s) all = laws.appended own (file ++ tail) (bytes_of s) differs in
    record {
      reads = subst (λ (b : Bool). Reads (cond b (file ++ tail) all) (mark_all_handed pending open_now)) (sym not_renamed) reads;
      differs = subst (λ (b : Bool). DiffersInOtherLines (text_at own s) (cond b (file ++ tail) all)) (sym not_renamed) (subst (λ (b : Bool). DiffersInOtherLines (cond b (bytes_of s) (own ++ bytes_of s)) all) (sym replaces) alike);
    }
written laws s t own new file tail pending open_list renamed r same (compacting replaces not_renamed is untracked idle whole differs) = absurd (let no : false ≡ true = sym not_renamed ∙ same ∙ replaces in cc)
written laws s t own new file tail pending open_list renamed r same (replaced replaces is_renamed is idle ended differs) =
    let open_now = open_after_lines open_list (lines_of tail) in
    let all : List ℕ = (file ++ tail) ++ bytes_of s in
    let text : file ++ tail ≡ file = ap (λ (x : List ℕ). file ++ x) ended ∙ append-nil file in
    let whole : is_whole (file ++ tail) ≡ true = ap is_whole text ∙ r.whole in
    let reads : Reads (file ++ tail) (mark_all_handed pending open_now) = subst (Reads (file ++ tail)) (sym idle) (now-reads laws file tail open_list r (cond-true (is_whole (file ++ tail)) _ _ whole)) in
    let alike : DiffersInOtherLines (bytes_of s) (file ++ tail) = subst (DiffersInOtherLines (bytes_of s)) (sym text) differs in
    record {
      reads = subst (λ (b : Bool). Reads (cond b (file ++ tail) all) (mark_all_handed pending open_now)) (sym is_renamed) reads;
      differs = subst (λ (b : Bool). DiffersInOtherLines (text_at own s) (cond b (file ++ tail) all)) (sym is_renamed) (subst (λ (b : Bool). DiffersInOtherLines (cond b (bytes_of s) (own ++ bytes_of s)) (file ++ tail)) (sym replaces) alike);
    }

step-write : (below : Below) (laws : Handling) (name : List ℕ) (h : TrackedHost) (t : Session) → Good h → tracks.MayDo name h (tracks.Writes t) → Good (tracks.did h (tracks.Writes t))
step-write below laws name h t g may =
    let s = h.host.session in
    let w = written laws s t h.host.file h.host.new h.file h.tail h.pending h.open_list h.renamed g.reads may.1 g.state in
    let p : Host = record h.host { session = t; file = text_at h.host.file s; new = None } in
    let file : List ℕ = cond h.renamed (text_now h) (text_now h ++ agent_bytes h) in
    let none : bytes_of t ≡ [] = ap (λ (n : ℕ). drop n (text_of t.agent.device)) may.0.0 ∙ ap (λ (a : AgentState). drop (length (text_of s.agent.device)) (text_of a.device)) may.0.2 ∙ drop-all (text_of s.agent.device) in
    record {
      hosted = does below name h.host (Writes t) g.hosted may.0;
      keeps = shown-keeps p (ap (λ (a : AgentState). a.concrete.config.keep_events) may.0.2 ∙ g.keeps);
      reads = w.reads;
      state = shown-state p file [] [] (mark_all_handed h.pending (counted h)) false (settled t (text_at h.host.file s) None file [] (mark_all_handed h.pending (counted h)) may.0.1 none w.reads.whole hands-nothing w.differs);
    }

-- ---- lines of the host's own

pub record Own (h : TrackedHost) : Type 0 where
  pub reads : Reads (text_now h) (counted h)
  pub hands : Hands [] h.pending
  pub differs : DiffersInOtherLines h.host.file (text_now h)
  pub not_renamed : h.renamed ≡ false

pub own-at : (laws : Handling) (h : TrackedHost) → Good h → is_ready h.host.session ≡ true → State h.host.session h.host.file h.host.new h.file h.tail h.pending h.open_list h.renamed → Own h
own-at laws h g ready (plain replaces not_renamed more text hands differs) =
    let now = whole-now laws h.file h.tail more (bytes_of h.host.session) h.pending text hands (ready-bytes h.host.session ready).1 in
    record { reads = now-reads laws h.file h.tail h.open_list g.reads now.1; hands = subst (λ (x : List ℕ). Hands x h.pending) now.2 hands; differs = differs; not_renamed = not_renamed }
own-at laws h g ready (compacting replaces not_renamed is untracked idle whole differs) = absurd (not-replacing h.host.session ready replaces)
own-at laws h g ready (replaced replaces is_renamed is idle ended differs) = absurd (not-replacing h.host.session ready replaces)

step-own : (laws : Handling) (h : TrackedHost) (lines : List ℕ) (next : List OpenEvent) → Good h → is_ready h.host.session ≡ true → AreOtherLines lines → (Reads (text_now h) (counted h) → Reads (text_now h ++ lines) next) → Good (tracks.with_lines lines next h)
step-own laws h lines next g ready others reads =
    let own = own-at laws h g ready g.state in
    let bytes = ready-bytes h.host.session ready in
    let now = reads own.reads in
    record {
      hosted = g.hosted;
      keeps = g.keeps;
      reads = now;
      state = subst (State h.host.session h.host.file h.host.new (text_now h ++ lines) [] h.pending next) (sym own.not_renamed)
          (settled h.host.session h.host.file h.host.new (text_now h ++ lines) h.pending next bytes.0 bytes.1 now.whole own.hands (differs-more laws h.host.file (text_now h) lines own.differs own.reads.whole others));
    }

-- ---- the new text of a compaction

step-rename : (laws : Handling) (name : List ℕ) (h : TrackedHost) (time : ℕ) (more : List ℕ) → Good h → tracks.MayDo name h (tracks.Renames time more) → State h.host.session h.host.file h.host.new h.file h.tail h.pending h.open_list h.renamed → Good (tracks.did h (tracks.Renames time more))
step-rename laws name h time more g may (plain replaces not_renamed bytes text hands differs) = absurd (let no : true ≡ false = sym may.0 ∙ replaces in cc)
step-rename laws name h time more g may (replaced replaces is_renamed is idle ended differs) = absurd (let no : true ≡ false = sym is_renamed ∙ may.1 in cc)
step-rename laws name h time more g may (compacting replaces not_renamed is untracked idle whole differs) =
    let bytes = bytes_of h.host.session in
    let reads = now-reads laws h.file h.tail h.open_list g.reads (cond-true (is_whole (h.file ++ h.tail)) _ _ whole) in
    record {
      hosted = g.hosted;
      keeps = g.keeps;
      reads = reads-compacted laws (text_now h) bytes time (counted h) more reads untracked.whole (untracked-lines laws bytes untracked) may.2 may.3.1;
      state = replaced replaces refl is idle refl (differs-compacted laws bytes time (counted h) more untracked.whole may.2 may.3.0);
    }

-- ---- the next life

keeps-on : (below : Below) (name : List ℕ) (settings : Settings) (text : List ℕ) (t : Session) → is_sound (config_of name settings) ≡ true → settings.keep_events ≡ true → GoesOn name settings text t → t.agent.concrete.config.keep_events ≡ true
keeps-on below name settings text t ok keeps goes_on =
    let config = config_of name settings in
    let j = (first_life config [] (fresh_device [])).agent in
    let sound : IsSound j = below.begins_sound config [] (fresh_device []) ok in
    let past : HasPast config j text = (below.opens j config text (fresh_device text) sound (below.begins_durable config [] (fresh_device [])) ok (record { durable = []; tail = text; is = refl; whole = refl })).2 in
    ap (λ (a : ConcreteState). a.config.keep_events) (goes_on j sound past).0 ∙ keeps

-- an opening ends the last line if that is torn
fresh-state : (laws : Handling) (text file tail : List ℕ) (t : Session) (open_list : List OpenEvent) → IsFresh text t → text ≡ file ++ tail → State t text None file tail [] open_list false
fresh-state laws text file tail t open_list fresh same =
    let bytes : bytes_of t ≡ drop (length text) (text_of (opened_device text (fresh_device text))) = ap (λ (n : ℕ). drop n (text_of t.agent.device)) fresh.1 ∙ ap (λ (d : Device). drop (length text) (text_of d)) fresh.0 in
    let all : text ++ bytes_of t ≡ sealed text = ap (λ (x : List ℕ). text ++ x) bytes ∙ sealed-so text (is_whole text) in
    plain fresh.2 refl [] (append-nil (sealed (file ++ tail)) ∙ ap sealed (sym same) ∙ sym all ∙ ap (λ (x : List ℕ). x ++ bytes_of t) same) hands-nothing (subst (DiffersInOtherLines text) same (laws.itself text))

begins-with : (h : TrackedHost) (tail : List ℕ) → State h.host.session h.host.file h.host.new h.file h.tail h.pending h.open_list h.renamed → BeginsWith h.host (text_now h ++ tail)
begins-with h tail (plain replaces not_renamed more text hands differs) = record { own = h.host.file; front = text_now h; tail = tail; whole = refl; lines = differs; is = inl refl }
begins-with h tail (compacting replaces not_renamed is untracked idle whole differs) = record { own = h.host.file; front = text_now h; tail = tail; whole = refl; lines = differs; is = inl refl }
begins-with h tail (replaced replaces is_renamed is idle ended differs) = record { own = bytes_of h.host.session; front = h.file; tail = h.tail ++ tail; whole = append_assoc h.file h.tail tail; lines = differs; is = inr is }

step-die : (below : Below) (laws : Handling) (name : List ℕ) (h : TrackedHost) (settings : Settings) (tail : List ℕ) (t : Session) → Good h → tracks.MayDo name h (tracks.Dies settings tail t) → Good (tracks.did h (tracks.Dies settings tail t))
step-die below laws name h settings tail t g may =
    let text : List ℕ = text_now h ++ tail in
    record {
      hosted = does below name h.host (Dies settings text t) g.hosted (may.0, may.2, may.3, begins-with h tail g.state);
      keeps = keeps-on below name settings text t may.0 may.1 may.2;
      reads = g.reads;
      state = fresh-state laws text h.file (h.tail ++ tail) t h.open_list may.3 (append_assoc h.file h.tail tail);
    }

-- ---- all that a host does

pub step : (below : Below) (laws : Handling) (name : List ℕ) (h : TrackedHost) (deed : TrackedDeed) → Good h → tracks.MayDo name h deed → Good (tracks.did h deed)
step below laws name h (tracks.Calls e t code) g may = step-call below laws name h e t code g may
step below laws name h (tracks.Writes t) g may = step-write below laws name h t g may
step below laws name h (tracks.Renames time more) g may = step-rename laws name h time more g may g.state
step below laws name h (tracks.Begins e) g may = step-own laws h (begun_line e.time e.name e.payload) (mark_begun e (counted h)) g may.0 (other-begun laws e) (λ r. reads-begun laws (text_now h) (counted h) e r may.1)
step below laws name h (tracks.Ends e) g may = step-own laws h (done_line e.time e.name e.payload) (mark_done e (counted h)) g may.0 (other-done laws e) (λ r. reads-done laws (text_now h) (counted h) e r may.1)
step below laws name h (tracks.EndsUpTo time) g may = step-own laws h (done_up_to_line time) (mark_done_up_to time (counted h)) g may.0 (other-done_up_to laws time may.1) (λ r. reads-done_up_to laws (text_now h) (counted h) time r may.1)
step below laws name h (tracks.Appends lines) g may = step-own laws h lines (counted h) g may.0 may.1.0 (λ r. reads-silent laws (text_now h) lines (counted h) r may.1.1)
step below laws name h (tracks.Dies settings tail t) g may = step-die below laws name h settings tail t g may

pub all-good : (below : Below) (laws : Handling) (name : List ℕ) (h : TrackedHost) (deeds : List TrackedDeed) → Good h → MayTrack name h deeds → Good (tracked h deeds)
all-good below laws name h [] g may = g
all-good below laws name h (deed ∷ more) g may = all-good below laws name (tracks.did h deed) more (step below laws name h deed g may.0) may.1

pub first : (below : Below) (laws : Handling) (name : List ℕ) (settings : Settings) (text : List ℕ) (t : Session) (deeds : List TrackedDeed) → Lives name settings text t deeds → Good (first_tracked text t)
first below laws name settings text t deeds lives = record {
  hosted = begins below name settings text t lives.sound lives.on lives.fresh;
  keeps = keeps-on below name settings text t lives.sound lives.keeps lives.on;
  reads = record { whole = lives.whole; tracked = lives.is_tracked; is = refl };
  state = fresh-state laws text text [] t (open_events text) lives.fresh (sym (append-nil text));
}

pub no_silence : Below → Handling → NoSilence
no_silence below laws = λ name settings text t deeds lives.
    let h = tracked (first_tracked text t) deeds in
    let g = all-good below laws name (first_tracked text t) deeds (first below laws name settings text t deeds lives) lives.may in
    open-joined h.file h.tail h.open_list g.reads
