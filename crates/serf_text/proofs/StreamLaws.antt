-- What has been written after a write.
use Rattle.serf_text.proofs.Names.{List, [], ap, append-nil, arith, inl, inr, length, refl, subst, suc, sym, take, zero, ℕ, ◌++◌, ◌+◌, ◌∙◌, ◌∷◌, ◌≡◌, Appends-trans, common_steps, Appends, Err, IfErr, Ok, OnErr, OnOk, Result, AppendsFront, lines_of, HasRead, IsDone, IsHoldError, IsLeft, IsLineError, IsStopped, Reached, StopsAt, TellsAll, WaitsFor, answers_error, answers_told, StreamError, BadLine, LineTooLong, OutOfMemory, ReadError, WriteError}
use Rattle.std.specs.Prelude.{Option}

-- the answers that waited were written
pub reached-written : {J : Type 0} (told : J → List (List ℕ) → List ℕ → Type 0) (job : J) (number : ℕ) (waiting after : List ℕ) (lines : List (List ℕ)) (first now new : Option (List ℕ))
    → Reached told job number waiting lines first now → Appends now new waiting → after ≡ [] → Reached told job number after lines first new
reached-written told job number waiting after lines first now new h w none = record {
  numbered = h.numbered;
  text = h.text ++ waiting;
  appended = Appends-trans first now new h.text waiting h.appended w;
  tells = subst (told job lines) (sym (append-nil (h.text ++ waiting)) ∙ ap (λ k. (h.text ++ waiting) ++ k) (sym none)) h.tells;
}

-- a prefix of the answers that waited was written
front-following : (text waiting : List ℕ) (n : ℕ) → take (length text + n) (text ++ waiting) ≡ text ++ take n waiting
front-following [] waiting n = ap (λ k. take k waiting) (omega arith)
front-following (t ∷ ts) waiting n =
    let k : length (t ∷ ts) + n ≡ length ts + n + 1 = omega arith in
    rw k (grind (arith, common_steps, front-following ts waiting n))

pub front-written : (first now new : Option (List ℕ)) (text waiting : List ℕ) → Appends first now text → AppendsFront now new waiting → AppendsFront first new (text ++ waiting)
front-written first now new text waiting h f = (length text + f.0, rw (front-following text waiting f.0) (Appends-trans first now new text (take f.0 waiting) h f.1))

-- the lines that were processed, and those that were not
pub stopped-at-write : {J F : Type 0} (told : J → List (List ℕ) → List ℕ → Type 0) (refuses : List (List ℕ) → List ℕ → F → Type 0) (job : J) (number : ℕ) (waiting : List ℕ) (all lines left : List (List ℕ)) (first now new : Option (List ℕ))
    → all ≡ lines ++ left → Reached told job number waiting lines first now → AppendsFront now new waiting → StopsAt told refuses WriteError all first new
stopped-at-write told refuses job number waiting all lines left first now new splits h f = record {
  lines = lines;
  left = left;
  splits = splits;
  job = job;
  text = h.text ++ waiting;
  tells = h.tells;
  written = front-written first now new h.text waiting h.appended f;
  cause = tt;
}

pub waits-at-write : {J F : Type 0} (told : J → List (List ℕ) → List ℕ → Type 0) (refuses : List (List ℕ) → List ℕ → F → Type 0) (error : StreamError F) (all : List (List ℕ)) (waiting : List ℕ) (first now new : Option (List ℕ))
    → WaitsFor told refuses error all waiting first now → AppendsFront now new waiting → StopsAt told refuses WriteError all first new
waits-at-write told refuses error all waiting first now new h f = record {
  lines = h.lines;
  left = h.line ∷ h.more;
  splits = h.splits;
  job = h.job;
  text = h.text ++ waiting;
  tells = h.tells;
  written = front-written first now new h.text waiting h.appended f;
  cause = tt;
}

-- the error of a line, after the answers before it were written
pub stopped-at-line : {J F : Type 0} (told : J → List (List ℕ) → List ℕ → Type 0) (refuses : List (List ℕ) → List ℕ → F → Type 0) (error : StreamError F) (all : List (List ℕ)) (waiting : List ℕ) (first now new : Option (List ℕ))
    → WaitsFor told refuses error all waiting first now → Appends now new waiting → StopsAt told refuses error all first new
stopped-at-line told refuses ReadError all waiting first now new h w = absurd h.error_is
stopped-at-line told refuses WriteError all waiting first now new h w = absurd h.error_is
stopped-at-line told refuses (BadLine number error) all waiting first now new h w = record {
  lines = h.lines;
  left = h.line ∷ h.more;
  splits = h.splits;
  job = h.job;
  text = h.text ++ waiting;
  tells = h.tells;
  written = Appends-trans first now new h.text waiting h.appended w;
  cause = (h.line, h.more, refl, h.error_is.0, h.error_is.1);
}
stopped-at-line told refuses (LineTooLong number) all waiting first now new h w = record {
  lines = h.lines;
  left = h.line ∷ h.more;
  splits = h.splits;
  job = h.job;
  text = h.text ++ waiting;
  tells = h.tells;
  written = Appends-trans first now new h.text waiting h.appended w;
  cause = (h.line, h.more, refl, h.error_is.0, h.error_is.1);
}
stopped-at-line told refuses OutOfMemory all waiting first now new h w = record {
  lines = h.lines;
  left = h.line ∷ h.more;
  splits = h.splits;
  job = h.job;
  text = h.text ++ waiting;
  tells = h.tells;
  written = Appends-trans first now new h.text waiting h.appended w;
  cause = tt;
}

-- nothing more was written after a write failed
still-stopped : {J F : Type 0} (told : J → List (List ℕ) → List ℕ → Type 0) (refuses : List (List ℕ) → List ℕ → F → Type 0) (all : List (List ℕ)) (first now new : Option (List ℕ))
    → StopsAt told refuses WriteError all first now → Appends now new [] → StopsAt told refuses WriteError all first new
still-stopped told refuses all first now new s none = record {
  lines = s.lines;
  left = s.left;
  splits = s.splits;
  job = s.job;
  text = s.text;
  tells = s.tells;
  written = (s.written.0, subst (Appends first new) (append-nil (take s.written.0 s.text)) (Appends-trans first now new (take s.written.0 s.text) [] s.written.1 none));
  cause = tt;
}

take-none : (n : ℕ) → take {A = ℕ} n [] ≡ []
take-none zero = refl
take-none (suc n) = refl

front-of-nothing : (now new : Option (List ℕ)) (waiting : List ℕ) → waiting ≡ [] → AppendsFront now new waiting → Appends now new []
front-of-nothing now new waiting none f = subst (Appends now new) (take-none f.0) (subst (λ (w : List ℕ). Appends now new (take f.0 w)) none f.1)

-- all or a prefix of what waited was written
pub left-at-line : {J F : Type 0} (told : J → List (List ℕ) → List ℕ → Type 0) (refuses : List (List ℕ) → List ℕ → F → Type 0) (error : StreamError F) (all : List (List ℕ)) (waiting : List ℕ) (first now new : Option (List ℕ))
    → IsLeft told refuses error all waiting first now → Appends now new waiting → StopsAt told refuses error all first new
left-at-line told refuses error all waiting first now new (inl w) a = stopped-at-line told refuses error all waiting first now new w a
left-at-line {F = F} told refuses error all waiting first now new (inr s) a =
    subst (λ (f : StreamError F). StopsAt told refuses f all first new) (sym s.0) (still-stopped told refuses all first now new s.2 (subst (Appends now new) s.1 a))

pub left-at-write : {J F : Type 0} (told : J → List (List ℕ) → List ℕ → Type 0) (refuses : List (List ℕ) → List ℕ → F → Type 0) (error : StreamError F) (all : List (List ℕ)) (waiting : List ℕ) (first now new : Option (List ℕ))
    → IsLeft told refuses error all waiting first now → AppendsFront now new waiting → StopsAt told refuses WriteError all first new
left-at-write told refuses error all waiting first now new (inl w) f = waits-at-write told refuses error all waiting first now new w f
left-at-write told refuses error all waiting first now new (inr s) f = still-stopped told refuses all first now new s.2 (front-of-nothing now new waiting s.1 f)

-- a result that leads to the same fact, whether it is Ok or an error
pub either : {T E A C : Type 0} (B : E → Type 0) (r : Result T E) → OnOk r A → IfErr r B → (A → C) → ((e : E) → B e → C) → C
either B (Ok x) a b f k = f a
either B (Err e) a b f k = k e b

-- the last line was processed
pub done-at-end : {J : Type 0} (told : J → List (List ℕ) → List ℕ → Type 0) (job : J) (number : ℕ) (waiting : List ℕ) (all lines : List (List ℕ)) (held : List ℕ) (first now new : Option (List ℕ))
    → all ≡ lines ++ held ∷ [] → Reached told job number waiting (lines ++ (held ++ []) ∷ []) first now → Appends now new waiting → TellsAll told job all first new
done-at-end told job number waiting all lines held first now new splits h w =
    let same : lines ++ (held ++ []) ∷ [] ≡ all = ap (λ l. lines ++ l ∷ []) (append-nil held) ∙ sym splits in record {
      text = h.text ++ waiting;
      tells = subst (λ (ls : List (List ℕ)). told job ls (h.text ++ waiting)) same h.tells;
      written = Appends-trans first now new h.text waiting h.appended w;
    }

-- the last line has an error
pub waits-at-end : {J F : Type 0} (told : J → List (List ℕ) → List ℕ → Type 0) (refuses : List (List ℕ) → List ℕ → F → Type 0) (job : J) (error : StreamError F) (number : ℕ) (waiting after : List ℕ) (all lines : List (List ℕ)) (held : List ℕ) (first now : Option (List ℕ))
    → all ≡ lines ++ held ∷ [] → Reached told job number waiting lines first now → after ≡ waiting → IsLineError refuses error lines (held ++ []) → WaitsFor told refuses error all after first now
waits-at-end told refuses job error number waiting after all lines held first now splits h same is = record {
  lines = lines;
  line = held ++ [];
  more = [];
  splits = splits ∙ ap (λ l. lines ++ l ∷ []) (sym (append-nil held));
  job = job;
  text = h.text;
  appended = h.appended;
  tells = subst (λ (w : List ℕ). told job lines (h.text ++ w)) (sym same) h.tells;
  error_is = is;
}

-- a line that can't be held has an error
pub not-held : {F : Type 0} (refuses : List (List ℕ) → List ℕ → F → Type 0) (error : StreamError F) (lines : List (List ℕ)) (line : List ℕ) → IsHoldError error lines line → IsLineError refuses error lines line
not-held refuses ReadError lines line h = absurd h
not-held refuses (BadLine number error) lines line h = absurd h
not-held refuses (LineTooLong number) lines line h = h
not-held refuses OutOfMemory lines line h = tt
not-held refuses WriteError lines line h = absurd h

-- two facts about an error
pub both-err : {T E : Type 0} (A : Type 0) (B : E → Type 0) (r : Result T E) → OnErr r A → IfErr r B → IfErr r (λ e. A × B e)
both-err A B (Ok x) a b = tt
both-err A B (Err e) a b = (a, b)

-- when a read failed, all complete lines had been processed
pub stopped-at-read : {J F : Type 0} (told : J → List (List ℕ) → List ℕ → Type 0) (refuses : List (List ℕ) → List ℕ → F → Type 0) (job : J) (held : List ℕ) (number : ℕ) (waiting bytes : List ℕ) (first now : Option (List ℕ))
    → HasRead told job held number waiting bytes first now → waiting ≡ [] → StopsAt told refuses ReadError (lines_of bytes) first now
stopped-at-read told refuses job held number waiting bytes first now h none = record {
  lines = h.lines;
  left = held ∷ [];
  splits = h.splits;
  job = job;
  text = h.reached.text;
  tells = subst (told job h.lines) (ap (λ w. h.reached.text ++ w) none ∙ append-nil h.reached.text) h.reached.tells;
  written = h.reached.appended;
  cause = refl;
}

-- a read that returned nothing
pub no-more : (bytes buf : List ℕ) (n : ℕ) → n ≡ 0 → bytes ++ take n buf ≡ bytes
no-more bytes buf n none = let zero : take n buf ≡ [] = grind (arith, common_steps) in ap (λ t. bytes ++ t) zero ∙ append-nil bytes

-- ---- answers are reported

pub answered-whole : {J F : Type 0} (follows : J → List (List ℕ) → Type 0) (answer : List (List ℕ) → List ℕ → Result (List ℕ) F) (job : J) (all : List (List ℕ)) (first now : Option (List ℕ))
    → TellsAll (answers_told follows answer) job all first now → IsDone follows answer job all first now
answered-whole follows answer job all first now h = record { done = h.tells.0; text = h.text; answered = h.tells.1; written = h.written }

pub answered-front : {J F : Type 0} (follows : J → List (List ℕ) → Type 0) (answer : List (List ℕ) → List ℕ → Result (List ℕ) F) (error : StreamError F) (all : List (List ℕ)) (first now : Option (List ℕ))
    → StopsAt (answers_told follows answer) (answers_error answer) error all first now → IsStopped answer error all first now
answered-front follows answer error all first now h = record { lines = h.lines; left = h.left; splits = h.splits; text = h.text; answered = h.tells.1; written = h.written; cause = h.cause }
