-- The earliest deadline of open queries.
use Rattle.serf_agent.proofs.Names.{IsSomeAnd, List, None, Option, Some, [], ap, arith, filter, inl, inr, length, map, refl, ℕ, ◌++◌, ◌<◌, ◌↔◌, ◌∙◌, ◌∷◌, ◌≡◌, ◌≤◌, cases_lt, le-ltb, lt-ltb, lowest, smaller, is_due, OpenQuery}

smaller-two : (n m : ℕ) (o : Option ℕ) → smaller n (smaller m o) ≡ smaller m (smaller n o)
smaller-two n m None = ap (λ (k : ℕ). Some k) (omega arith)
smaller-two n m (Some k) = ap (λ (k : ℕ). Some k) (omega arith)

-- the earliest of some numbers, if one more number is appended
pub lowest-append : (ns : List ℕ) (n : ℕ) → lowest (ns ++ n ∷ []) ≡ smaller n (lowest ns)
lowest-append [] n = refl
lowest-append (m ∷ ns) n = ap (smaller m) (lowest-append ns n) ∙ smaller-two m n (lowest ns)

later : (d now : ℕ) (o : Option ℕ) → now ≤ d → IsSomeAnd (smaller d o) (λ e. e < now) ↔ IsSomeAnd o (λ e. e < now)
later d now None late = (λ h. absurd (omega arith), λ h. absurd h)
later d now (Some e) late = (λ h. omega arith, λ h. omega arith)

sooner : (d now : ℕ) (o : Option ℕ) → d < now → IsSomeAnd (smaller d o) (λ e. e < now)
sooner d now None soon = soon
sooner d now (Some e) soon = omega arith

-- a query is due exactly if the earliest deadline is past
pub due-lowest : (now : ℕ) (fired_queries : List (ℕ × OpenQuery)) → IsSomeAnd (lowest (map (λ q. q.deadline) (map (λ q. q.1) fired_queries))) (λ d. d < now) ↔ (0 < length (filter (is_due now) fired_queries))
due-lowest now [] = (λ h. absurd h, λ h. absurd (omega arith))
due-lowest now (q ∷ qs) = elim (cases_lt q.1.deadline now) [
  | inl soon ↦ rw (lt-ltb q.1.deadline now soon) (λ h. omega arith, λ h. sooner q.1.deadline now (lowest (map (λ p. p.deadline) (map (λ p. p.1) qs))) soon)
  | inr late ↦ rw (le-ltb q.1.deadline now late)
      (let ih = due-lowest now qs in let moved = later q.1.deadline now (lowest (map (λ p. p.deadline) (map (λ p. p.1) qs))) late in
      (λ h. ih.0 (moved.0 h), λ h. moved.1 (ih.1 h)))
]
