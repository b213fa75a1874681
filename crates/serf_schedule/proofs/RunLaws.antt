-- The run of a schedule whose lines are done one by one, each as soon as it is read.
use Rattle.serf_schedule.proofs.Names.{Bool, Err, List, None, Ok, Option, Result, Some, [], ap, arith, false, length, nat_lt, refl, subst, sym, true, ℕ, ◌++◌, ◌+◌, ◌<◌, ◌∙◌, ◌∷◌, ◌≡◌, option_to_list, BadLine, Fails, at_line, Cause, LineError, Bad, OutOfMemory, Config, AreConfigs, Action, Parsed, after_line, IsLineRefused, IsStage, IsHeld, following, after_lines, schedule_in, Acting}

-- ---- lines after others

after-append : (n : ℕ) (p said : Parsed) (lines more : List (List ℕ)) → after_lines n p lines ≡ Ok said → after_lines n p (lines ++ more) ≡ after_lines (n + length lines) said more
after-append n p said [] more is =
    let same : p ≡ said = cc is in
    let place : n ≡ n + 0 = omega arith in
    ap (λ (q : Parsed). after_lines n q more) same ∙ ap (λ m. after_lines m said more) place
after-append n p said (l ∷ ls) more is = by (after_line p l) (λ q. after-append (n + 1) q said ls more) is
  where
    by : (r : Result Parsed Cause) → ((q : Parsed) → after_lines (n + 1) q ls ≡ Ok said → after_lines (n + 1) q (ls ++ more) ≡ after_lines (n + 1 + length ls) said more)
        → at_line n r (λ q. after_lines (n + 1) q ls) ≡ Ok said → at_line n r (λ q. after_lines (n + 1) q (ls ++ more)) ≡ after_lines (n + length (l ∷ ls)) said more
    by (Ok q) rest e = let place : n + 1 + length ls ≡ n + length (l ∷ ls) = omega arith in rest q e ∙ ap (λ m. after_lines m said more) place
    by (Err cause) rest e = absurd (cc e)

pub line-more : (lines : List (List ℕ)) (line : List ℕ) (said after : Parsed) → schedule_in lines ≡ Ok said → after_line said line ≡ Ok after → schedule_in (lines ++ line ∷ []) ≡ Ok after
line-more lines line said after reads is =
    after-append 1 (record { configs = []; actions = [] }) said lines (line ∷ []) reads ∙ ap (λ r. at_line (1 + length lines) r (λ (q : Parsed). let ok : Result Parsed BadLine = Ok q in ok)) is

line-bad : (lines more : List (List ℕ)) (line : List ℕ) (said : Parsed) (cause : Cause) → schedule_in lines ≡ Ok said → after_line said line ≡ Err cause
    → schedule_in (lines ++ line ∷ more) ≡ Err (record { line = length lines + 1; cause = cause })
line-bad lines more line said cause reads is =
    let place : 1 + length lines ≡ length lines + 1 = omega arith in
    after-append 1 (record { configs = []; actions = [] }) said lines (line ∷ more) reads
    ∙ ap (λ r. at_line (1 + length lines) r (λ (q : Parsed). after_lines (1 + length lines + 1) q more)) is
    ∙ ap (λ n. let bad : BadLine = record { line = n; cause = cause } in let err : Result Parsed BadLine = Err bad in err) place

pub refused-line : (error : LineError) (lines : List (List ℕ)) (line : List ℕ) (said : Parsed) → schedule_in lines ≡ Ok said → Fails error (after_line said line) → IsLineRefused error lines line
refused-line (Bad cause) lines line said reads is = λ more. line-bad lines more line said cause reads is
refused-line OutOfMemory lines line said reads is = tt

-- ---- what the run holds

abbrev pub has-some : {X : Type 0} → Option X → Bool
has-some None = false
has-some (Some x) = true

is-late : (n : ℕ) → 0 < n → nat_lt 0 n ≡ true
is-late n h = grind (arith, h)

pub stage-held : {T : Type 0} (told : T → List Config → List Action → List ℕ → Type 0) (agents : List Config) (acting : Option Acting) (t : T) (said : Parsed) (text : List ℕ) → IsStage told agents acting t said text → (late : Bool) → late ≡ has-some acting → IsHeld late agents said
stage-held told agents None t said text stage late is = record { late = ap (λ (xs : List Action). nat_lt 0 (length xs)) stage.1 ∙ sym is; agents_are = λ h. stage.0 }
stage-held told agents (Some acting) t said text stage late is = record { late = is-late (length said.actions) stage.some ∙ sym is; agents_are = λ h. absurd (cc (sym h ∙ is)) }

-- the schedule with the agents after a line
abbrev pub with-agents : Bool → List Config → Parsed → Parsed
with-agents true agents said = said
with-agents false agents said = record { configs = agents; actions = said.actions }

pub stage-following : {T : Type 0} (told : T → List Config → List Action → List ℕ → Type 0) (agents new : List Config) (acting : Option Acting) (t : T) (said : Parsed) (text : List ℕ) → IsStage told agents acting t said text → (late : Bool) → late ≡ has-some acting → IsStage told new acting t (with-agents late new said) text
stage-following told agents new None t said text stage false is = (refl, stage.1, stage.2)
stage-following told agents new None t said text stage true is = absurd (cc is)
stage-following told agents new (Some acting) t said text stage true is = stage
stage-following told agents new (Some acting) t said text stage false is = absurd (cc is)

pub stage-tells : {T : Type 0} (told : T → List Config → List Action → List ℕ → Type 0) (agents : List Config) (acting : Option Acting) (t : T) (said : Parsed) (text : List ℕ) → IsStage told agents acting t said text → told t said.configs said.actions text
stage-tells told agents None t said text stage = subst (λ (actions : List Action). told t said.configs actions text) (sym stage.1) (stage.2 said.configs)
stage-tells told agents (Some acting) t said text stage = stage.acts.tells

pub settings-following : (late : Bool) (old new : List Config) (said : Parsed) → IsHeld late old said → AreConfigs said.configs → (AreConfigs old → AreConfigs new) → AreConfigs (with-agents late new said).configs
settings-following true old new said held before now = before
settings-following false old new said held before now = now (subst AreConfigs (held.agents_are refl) before)

pub following-is : (late : Bool) (said : Parsed) (new : List Config) (shown : Option Action) → following late said new shown ≡ record { configs = (with-agents late new said).configs; actions = (with-agents late new said).actions ++ option_to_list shown }
following-is true said new shown = refl
following-is false said new shown = refl

pub said-following : (late : Bool) (said : Parsed) (new : List Config) (field shown : Option Action) (r : Result Parsed Cause) → r ≡ Ok (following late said new field) → field ≡ shown → r ≡ Ok (record { configs = (with-agents late new said).configs; actions = (with-agents late new said).actions ++ option_to_list shown })
said-following late said new field shown r is same = is ∙ ap (λ (p : Parsed). let ok : Result Parsed Cause = Ok p in ok) (following-is late said new field ∙ ap (λ (o : Option Action). let p : Parsed = record { configs = (with-agents late new said).configs; actions = (with-agents late new said).actions ++ option_to_list o } in p) same)
