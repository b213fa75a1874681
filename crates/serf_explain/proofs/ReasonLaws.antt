-- A text to which reasons are appended.
use Rattle.serf_explain.proofs.Names.{Bool, Err, List, None, Ok, OnOk, Option, Result, Some, [], ap, append_assoc, arith, codes, cond, decimal, false, length, refl, sym, true, ℕ, ◌++◌, ◌<◌, ◌∙◌, ◌∷◌, ◌≡◌, flat_map, Message, PushPull, push_pull, ConcreteState, AddsReasons, AddsSome, because_line, raised_reasons, raised_words, state_event_clock, hears_nothing, unheard_min}
use Rattle.std.proofs.lemmas.List.{append-nil}
use Rattle.serf_model.specs.declared.action.Act.TheVariants as acts

pub lines-append : (n : ℕ) (xs ys : List (List ℕ)) → flat_map (because_line n) (xs ++ ys) ≡ flat_map (because_line n) xs ++ flat_map (because_line n) ys
lines-append n [] ys = refl
lines-append n (x ∷ xs) ys =
    ap (λ t. because_line n x ++ t) (lines-append n xs ys)
    ∙ sym (append_assoc (because_line n x) (flat_map (because_line n) xs) (flat_map (because_line n) ys))

-- what holds in any case holds of a call that succeeded
pub on_ok_any : {R E P : Type 0} (r : Result R E) → P → OnOk r P
on_ok_any (Ok x) p = p
on_ok_any (Err e) p = tt

pub adds-none : (n : ℕ) (text : List ℕ) → AddsReasons n text text
adds-none n text = record { reasons = []; added = sym (append-nil text) }

pub adds-one : (n : ℕ) (a b reason : List ℕ) → b ≡ a ++ because_line n reason → AddsSome n a b
adds-one n a b reason is = record { reasons = reason ∷ []; some = omega arith; added = is ∙ ap (λ t. a ++ t) (sym (append-nil (because_line n reason))) }

pub reasons-of : (n : ℕ) (a b : List ℕ) → AddsSome n a b → AddsReasons n a b
reasons-of n a b h = record { reasons = h.reasons; added = h.added }

pub adds-both : (n : ℕ) (a b c : List ℕ) → AddsReasons n a b → AddsReasons n b c → AddsReasons n a c
adds-both n a b c h k = record {
  reasons = h.reasons ++ k.reasons;
  added = k.added ∙ ap (λ t. t ++ flat_map (because_line n) k.reasons) h.added
      ∙ append_assoc a (flat_map (because_line n) h.reasons) (flat_map (because_line n) k.reasons)
      ∙ ap (λ t. a ++ t) (sym (lines-append n h.reasons k.reasons));
}

pub adds-following : (n : ℕ) (a b c : List ℕ) → AddsReasons n a b → AddsSome n b c → AddsSome n a c
adds-following n a b c h k = by h.reasons h.added
  where
    some : (rs ss : List (List ℕ)) → 0 < length ss → 0 < length (rs ++ ss)
    some [] ss m = m
    some (r ∷ rs) ss m = omega arith

    by : (rs : List (List ℕ)) → b ≡ a ++ flat_map (because_line n) rs → AddsSome n a c
    by rs is = record {
      reasons = rs ++ k.reasons;
      some = some rs k.reasons k.some;
      added = k.added ∙ ap (λ t. t ++ flat_map (because_line n) k.reasons) is
          ∙ append_assoc a (flat_map (because_line n) rs) (flat_map (because_line n) k.reasons)
          ∙ ap (λ t. a ++ t) (sym (lines-append n rs k.reasons));
    }

-- the line of the minimum for events, and then the lines of other reasons
pub adds_raised : (n : ℕ) (raised : Option ℕ) (a b c : List ℕ) → b ≡ a ++ flat_map (because_line n) (raised_reasons raised) → AddsSome n b c → AddsSome n a c
adds_raised n raised a b c is some = adds-following n a b c (record { reasons = raised_reasons raised; added = is }) some

-- what is known of a merge of which nothing was processed, and of any other merge
pub unheard_is : (s : ConcreteState) (before packet : ℕ) (join b : Bool) (m : Option Message) → ((p : PushPull) → b ≡ hears_nothing s before join p) → cond b (state_event_clock m) None ≡ unheard_min s before (acts.Merge packet join) m
unheard_is s before packet join b (Some (push_pull p)) h = ap (λ (x : Bool). cond x (Some p.event_clock) None) (h p)
unheard_is s before packet join true _ h = refl
unheard_is s before packet join false _ h = refl

-- the line of the minimum for events was appended
pub raised_is : (n lowest : ℕ) (none reason said old new : List ℕ) → none ≡ [] → reason ≡ none ++ codes "the join ignores old events: the minimum time rises to " ++ decimal lowest → said ≡ reason → new ≡ old ++ because_line n said
    → new ≡ old ++ flat_map (because_line n) (raised_reasons (Some lowest))
unfolding raised_words
raised_is n lowest none reason said old new empty made same is =
    let words : List ℕ = codes "the join ignores old events: the minimum time rises to " ++ decimal lowest in
    let own : said ≡ words = same ∙ made ∙ ap (λ (t : List ℕ). t ++ codes "the join ignores old events: the minimum time rises to " ++ decimal lowest) empty in
    is ∙ ap (λ (t : List ℕ). old ++ because_line n t) own ∙ ap (λ (t : List ℕ). old ++ t) (sym (append-nil (because_line n words)))
