-- The lines of what slots hold, as the slots are borrowed and as they are stored, and whether a compaction that keeps
-- them is worth doing.
use Rattle.serf_agent.proofs.Names.{Bool, IfSome, List, None, Option, Some, [], ap, append_assoc, arith, cond, false, length, length-append, map, nat_le, nat_lt, refl, subst, sym, true, ℕ, ◌&&◌, ◌++◌, ◌<◌, ◌∙◌, ◌∷◌, ◌≡◌, ◌≤◌, leb-false, lt-leb, flat_map, ◌*◌, slot_in_memory, TimeSlot, clock_line, line_above_zero, counted, is_worth_replacing, kept_clock_line, kept_compaction_of, kept_line_above_zero, SnapshotView, compaction_of, ClockKind, slot_view, TimedEntry, held_from, held_in, kept_lines, lines_of_slot, lines_written, written_lines, text_with, ConcreteState}
use Rattle.std.specs.Prelude.{◌==◌}
use Rattle.serf_snapshot.specs.declared.kind.ClockKind.TheVariants as kinds

-- the lines of two lists of entries, and of the keys of a time
told-append : {K : Type 0} (line : ℕ → K → List ℕ) (xs ys : List (TimedEntry K)) → lines_written line (xs ++ ys) ≡ lines_written line xs ++ lines_written line ys
told-append line [] ys = refl
told-append line (x ∷ xs) ys = ap (λ (l : List ℕ). line x.time x.key ++ l) (told-append line xs ys) ∙ sym (append_assoc (line x.time x.key) (lines_written line xs) (lines_written line ys))

told-keys : {K : Type 0} (line : ℕ → K → List ℕ) (t : ℕ) (keys : List K) → flat_map (line t) keys ≡ lines_written line (map (λ key. record { time = t; key = key }) keys)
told-keys line t [] = refl
told-keys line t (key ∷ keys) = ap (λ (l : List ℕ). line t key ++ l) (told-keys line t keys)

pub slot-lines : {K : Type 0} (line : ℕ → K → List ℕ) (lowest : ℕ) (slots : List (TimeSlot K)) → flat_map (lines_of_slot line lowest) (map slot_in_memory slots) ≡ lines_written line (held_from lowest (map slot_view slots))
slot-lines line lowest [] = refl
slot-lines {K} line lowest (s ∷ ss) =
    (λ k. one (nat_lt s.time lowest) k ++ slot-lines line lowest ss k)
    ∙ sym (told-append line (held_in lowest (slot_view s)) (held_from lowest (map slot_view ss)))
  where
    one : (b : Bool) → cond b [] (flat_map (line s.time) s.held.items) ≡ lines_written line (cond b [] (map (λ (key : K). record { time = s.time; key = key }) s.held.items))
    one true = refl
    one false = told-keys line s.time s.held.items

-- ---- whether a compaction that keeps them is worth doing

-- if a text isn't worth replacing by another, it isn't worth replacing by a longer one
worth-less : (limit : ℕ) (new longer text : List ℕ) → length new ≤ length longer → is_worth_replacing limit new text ≡ false → is_worth_replacing limit longer text ≡ false
worth-less limit new longer text more = by (nat_lt limit (counted text))
  where
    by : (b : Bool) → (b && nat_le (2 * length new) (counted text)) ≡ false → (b && nat_le (2 * length longer) (counted text)) ≡ false
    by false none = refl
    by true none = let short : counted text < 2 * length new = leb-false _ _ none in lt-leb _ _ (omega arith)

-- the text of a compaction without lines is no longer than one with lines
kept-longer : (lines : List ℕ) (s : SnapshotView) → length (compaction_of s) ≤ length (kept_compaction_of lines s)
kept-longer lines s =
    let member : List ℕ = line_above_zero kinds.Member s.member_clock in
    let event : List ℕ = kept_line_above_zero kinds.Event s.event_clock in
    let fired_queries : List ℕ = kept_line_above_zero kinds.Query s.query_clock in
    let plain_event : List ℕ = line_above_zero kinds.Event s.event_clock in
    let plain_fired_queries : List ℕ = line_above_zero kinds.Query s.query_clock in
    let a = length-append lines member in
    let b = length-append (lines ++ member) event in
    let c = length-append ((lines ++ member) ++ event) fired_queries in
    let d = length-append member plain_event in
    let e = length-append (member ++ plain_event) plain_fired_queries in
    let x = zero-longer kinds.Event s.event_clock in
    let y = zero-longer kinds.Query s.query_clock in
    omega (arith, a, b, c, d, e, x, y)
  where
    zero-longer : (kind : ClockKind) (t : ℕ) → length (line_above_zero kind t) ≤ length (kept_line_above_zero kind t)
    zero-longer kind t = by kind (t == 0)
      where
        by : (kind : ClockKind) (b : Bool) → length (cond b [] (clock_line kind t)) ≤ length (cond b [] (kept_clock_line kind t))
        by kinds.Member true = omega arith
        by kinds.Member false = omega arith
        by kinds.Event true = omega arith
        by kinds.Event false = omega arith
        by kinds.Query true = omega arith
        by kinds.Query false = omega arith

-- for an agent that keeps events, a compaction is worth doing if replacing the text by one with its kept lines is
pub worth-with : (a : ConcreteState) (limit : ℕ) (r : Bool) → a.config.keep_events ≡ true → IfSome a.snapshot.durable (λ text. r ≡ is_worth_replacing limit (kept_compaction_of (kept_lines a) a.snapshot) text)
    → IfSome a.snapshot.durable (λ text. r ≡ is_worth_replacing limit (text_with (written_lines a) a.snapshot) text)
worth-with a limit r keeps worth =
    let told : text_with (written_lines a) a.snapshot ≡ kept_compaction_of (kept_lines a) a.snapshot = ap (λ (b : Bool). text_with (cond b (Some (kept_lines a)) None) a.snapshot) keeps in
    subst (λ (new : List ℕ). IfSome a.snapshot.durable (λ text. r ≡ is_worth_replacing limit new text)) (sym told) worth

-- for an agent that keeps no events, a compaction is worth doing if replacing the text by one without lines is
pub worth-plain : (a : ConcreteState) (limit : ℕ) (r : Bool) → a.config.keep_events ≡ false → IfSome a.snapshot.durable (λ text. r ≡ is_worth_replacing limit (compaction_of a.snapshot) text)
    → IfSome a.snapshot.durable (λ text. r ≡ is_worth_replacing limit (text_with (written_lines a) a.snapshot) text)
worth-plain a limit r off worth =
    let told : text_with (written_lines a) a.snapshot ≡ compaction_of a.snapshot = ap (λ (b : Bool). text_with (cond b (Some (kept_lines a)) None) a.snapshot) off in
    subst (λ (new : List ℕ). IfSome a.snapshot.durable (λ text. r ≡ is_worth_replacing limit new text)) (sym told) worth

-- if replacing the text isn't worth it without the kept lines, it isn't worth it with them
pub worth-without : (a : ConcreteState) (limit : ℕ) (r : Bool) → a.config.keep_events ≡ true → r ≡ false → IfSome a.snapshot.durable (λ text. r ≡ is_worth_replacing limit (compaction_of a.snapshot) text)
    → IfSome a.snapshot.durable (λ text. r ≡ is_worth_replacing limit (text_with (written_lines a) a.snapshot) text)
worth-without a limit r keeps is worth = worth-with a limit r keeps (by a.snapshot.durable worth)
  where
    by : (o : Option (List ℕ)) → IfSome o (λ text. r ≡ is_worth_replacing limit (compaction_of a.snapshot) text) → IfSome o (λ text. r ≡ is_worth_replacing limit (kept_compaction_of (kept_lines a) a.snapshot) text)
    by None worth = tt
    by (Some text) worth = is ∙ sym (worth-less limit (compaction_of a.snapshot) (kept_compaction_of (kept_lines a) a.snapshot) text (kept-longer (kept_lines a) a.snapshot) (sym worth ∙ is))
