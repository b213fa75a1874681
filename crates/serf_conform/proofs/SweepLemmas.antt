-- Agents that are compared one after another.
use Rattle.serf_conform.proofs.Names.{Bool, List, None, Option, Some, [], ap, arith, drop, false, get_or, length, refl, subst, sym, true, ℕ, ◌++◌, ◌+◌, ◌∙◌, ◌∷◌, ◌≡◌, ◌≤◌, Appends-trans, IfSome, Config, Turn, Concludes, IsLeft, Session, session, End, Verdict, IsSweeping, Sweep, Sweeps, after_session, is_differing, sweep_from, with_verdict, Counts, Held}
use Rattle.serf_conform.specs.declared.verdict.End.TheVariants as ends

-- If an agent agrees, the reader has the rest left.
left_goes : (e : End) (new : Option (List ℕ)) (rest : List ℕ) → is_differing e ≡ false → IsLeft e new rest → new ≡ Some rest
left_goes ends.AllAgree new rest goes left = left
left_goes ends.OwnRule new rest goes left = left
left_goes ends.Unsupported new rest goes left = left
left_goes (ends.Differs text) new rest goes left = cc
left_goes ends.Ended new rest goes left = cc

-- an agent that agrees
sweep_on : (old now new from mid to : Option (List ℕ)) (whole : List ℕ → Sweep) (serf : Bool) (turns : List Turn) (a : ℕ) (counts : Counts) (x : Config) (xs : List Config) (v : Verdict)
    → IsSweeping old now from mid whole (λ w rest. sweep_from serf turns a counts w (x ∷ xs) rest)
    → IfSome now (λ input. Concludes (session serf a x turns input) v new mid to)
    → is_differing v.end ≡ false
    → IsSweeping old new from to whole (λ w rest. sweep_from serf turns (a + 1) (with_verdict counts v) w xs rest)
sweep_on None now new from mid to whole serf turns a counts x xs v along taken goes = tt
sweep_on (Some i) None new from mid to whole serf turns a counts x xs v along taken goes = absurd along
sweep_on (Some i) (Some r) new from mid to whole serf turns a counts x xs v along taken goes =
    let s : Session = session serf a x turns r in
    let next : Counts → List ℕ → List ℕ → Sweep = λ c w rest. sweep_from serf turns (a + 1) c w xs rest in
    let on : is_differing s.verdict.end ≡ false = ap (λ (y : Verdict). is_differing y.end) (sym taken.verdict_is) ∙ goes in
    let left : new ≡ Some s.rest = left_goes v.end new s.rest goes taken.left in
    let same : next (with_verdict counts v) (along.0 ++ s.written) s.rest ≡ whole i =
    ap (λ (y : Verdict). next (with_verdict counts y) (along.0 ++ s.written) s.rest) taken.verdict_is
    ∙ (sym (ap (λ (b : Bool). after_session b a counts along.0 s next) on) ∙ along.2) in
    subst (λ (n : Option (List ℕ)). IsSweeping (Some i) n from to whole (λ w rest. sweep_from serf turns (a + 1) (with_verdict counts v) w xs rest)) (sym left)
    (along.0 ++ s.written, Appends-trans _ _ _ _ _ along.1 taken.written, same)

-- an agent that differs
sweep_ends : (old now new from mid to : Option (List ℕ)) (whole : List ℕ → Sweep) (serf : Bool) (turns : List Turn) (a : ℕ) (counts : Counts) (x : Config) (xs : List Config) (v : Verdict)
    → IsSweeping old now from mid whole (λ w rest. sweep_from serf turns a counts w (x ∷ xs) rest)
    → IfSome now (λ input. Concludes (session serf a x turns input) v new mid to)
    → is_differing v.end ≡ true
    → IfSome old (λ input. Sweeps (whole input) (record { counts = with_verdict counts v; other = Some (record { agent = a; verdict = v }) }) new from to)
sweep_ends None now new from mid to whole serf turns a counts x xs v along taken ends = tt
sweep_ends (Some i) None new from mid to whole serf turns a counts x xs v along taken ends = absurd along
sweep_ends (Some i) (Some r) new from mid to whole serf turns a counts x xs v along taken ends =
    let s : Session = session serf a x turns r in
    let next : Counts → List ℕ → List ℕ → Sweep = λ c w rest. sweep_from serf turns (a + 1) c w xs rest in
    let H : Verdict → Held = λ y. record { counts = with_verdict counts y; other = Some (record { agent = a; verdict = y }) } in
    let there : is_differing s.verdict.end ≡ true = ap (λ (y : Verdict). is_differing y.end) (sym taken.verdict_is) ∙ ends in
    let same : record { held = H s.verdict; written = along.0 ++ s.written; rest = s.rest } ≡ whole i =
    sym (ap (λ (b : Bool). after_session b a counts along.0 s next) there) ∙ along.2 in
    subst (λ (z : Sweep). Sweeps z (H v) new from to) same
    (record { held_is = ap H taken.verdict_is; written = Appends-trans _ _ _ _ _ along.1 taken.written; left = taken.left })

-- No agent is left.
pub sweep_done : (old now from to : Option (List ℕ)) (whole : List ℕ → Sweep) (serf : Bool) (turns : List Turn) (a : ℕ) (counts : Counts) (xs : List Config)
    → IsSweeping old now from to whole (λ w rest. sweep_from serf turns a counts w xs rest) → xs ≡ []
    → IfSome old (λ input. Sweeps (whole input) (record { counts = counts; other = None }) now from to)
sweep_done None now from to whole serf turns a counts xs along none = tt
sweep_done (Some i) None from to whole serf turns a counts xs along none = absurd along
sweep_done (Some i) (Some r) from to whole serf turns a counts (x ∷ xs) along none = cc
sweep_done (Some i) (Some r) from to whole serf turns a counts [] along none =
    subst (λ (z : Sweep). Sweeps z (record { counts = counts; other = None }) (Some r) from to) along.2
    (record { held_is = refl; written = along.1; left = refl })

-- The same for the first agent that is left, as the code computes it.
pub next_on : (old now new from mid to : Option (List ℕ)) (whole : List ℕ → Sweep) (serf : Bool) (turns : List Turn) (a : ℕ) (counts : Counts) (xs : List Config) (x : Config) (xs' : List Config) (v : Verdict) (total : Counts)
    → 1 ≤ length xs → x ≡ get_or xs 0 x
    → IsSweeping old now from mid whole (λ w rest. sweep_from serf turns a counts w xs rest)
    → IfSome now (λ input. Concludes (session serf a x turns input) v new mid to)
    → is_differing v.end ≡ false → xs' ≡ drop 1 xs → total ≡ with_verdict counts v
    → IsSweeping old new from to whole (λ w rest. sweep_from serf turns (a + 1) total w xs' rest)
next_on old now new from mid to whole serf turns a counts [] x xs' v total some is along taken goes e1 e2 = absurd (omega arith)
next_on old now new from mid to whole serf turns a counts (y ∷ ys) x xs' v total some is along taken goes e1 e2 =
    let F : List Config → Counts → Type 0 = λ p c. IsSweeping old new from to whole (λ w rest. sweep_from serf turns (a + 1) c w p rest) in
    let first = subst (λ (z : Config). IfSome now (λ input. Concludes (session serf a z turns input) v new mid to)) is taken in
    subst (λ (p : List Config). F p total) (sym e1) (subst (λ (c : Counts). F ys c) (sym e2)
    (sweep_on old now new from mid to whole serf turns a counts y ys v along first goes))

pub next_ends : (old now new from mid to : Option (List ℕ)) (whole : List ℕ → Sweep) (serf : Bool) (turns : List Turn) (a : ℕ) (counts : Counts) (xs : List Config) (x : Config) (v : Verdict) (total : Counts)
    → 1 ≤ length xs → x ≡ get_or xs 0 x
    → IsSweeping old now from mid whole (λ w rest. sweep_from serf turns a counts w xs rest)
    → IfSome now (λ input. Concludes (session serf a x turns input) v new mid to)
    → is_differing v.end ≡ true → total ≡ with_verdict counts v
    → IfSome old (λ input. Sweeps (whole input) (record { counts = total; other = Some (record { agent = a; verdict = v }) }) new from to)
next_ends old now new from mid to whole serf turns a counts [] x v total some is along taken ends e = absurd (omega arith)
next_ends old now new from mid to whole serf turns a counts (y ∷ ys) x v total some is along taken ends e =
    let first = subst (λ (z : Config). IfSome now (λ input. Concludes (session serf a z turns input) v new mid to)) is taken in
    subst (λ (c : Counts). IfSome old (λ input. Sweeps (whole input) (record { counts = c; other = Some (record { agent = a; verdict = v }) }) new from to)) (sym e)
    (sweep_ends old now new from mid to whole serf turns a counts y ys v along first ends)
