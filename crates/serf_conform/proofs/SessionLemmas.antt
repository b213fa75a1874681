-- A session, turn by turn.
use Rattle.serf_conform.proofs.Names.{Bool, List, None, Option, Some, [], ap, arith, drop, get_or, length, refl, subst, sym, true, ℕ, ◌++◌, ◌+◌, ◌∙◌, ◌∷◌, ◌≡◌, ◌≤◌, Appends-nil, Appends-trans, Appends, Err, IfOk, IfSome, Ok, Result, Config, AgentCall, Turn, turns_from, Action, Line, dump_after, dump_line, Said, OutcomeOf, Concludes, IsAlong, IsOutcome, IsFew, IsLeft, IsTaken, RestIs, Session, Taken, after_outcome, after_ending, agrees, outcome_for, counted, due_of, ending_of, last_of, dump_if, dumped_of, made_after, no_calls, opened_of, session, session_from, taken_at, taken_of, then_dumped, turn_at, with_line, with_dumped, TurnOutcome, Tally, StateDump, ConformError, Verdict}
use Rattle.serf_conform.specs.declared.asking.TurnOutcome.TheVariants as asks

-- If a call leads to no verdict, the reader has the rest left.
rest_goes : (outcome : TurnOutcome) (action : ℕ) (n : Tally) (new : Option (List ℕ)) (rest : List ℕ) → ending_of outcome action n ≡ None → RestIs outcome new rest → new ≡ Some rest
rest_goes asks.Ended action n new rest none is = cc
rest_goes (asks.DumpEnded dump) action n new rest none is = cc
rest_goes _ action n new rest none is = is

-- If a call leads to a verdict, the session leaves what the call leaves.
left_same : (v u : Verdict) (new : Option (List ℕ)) (rest : List ℕ) → Some u ≡ Some v → IsLeft u.end new rest → IsLeft v.end new rest
left_same v u new rest is left = let same : u ≡ v = cc in subst (λ (x : Verdict). IsLeft x.end new rest) same left

left_after : (outcome : TurnOutcome) (action : ℕ) (n : Tally) (new : Option (List ℕ)) (rest : List ℕ) (v : Verdict) → ending_of outcome action n ≡ Some v → RestIs outcome new rest → IsLeft v.end new rest
left_after asks.Skipped action n new rest v is left = cc
left_after asks.Agrees action n new rest v is left = cc
left_after asks.Looked action n new rest v is left = cc
left_after asks.Unlooked action n new rest v is left = cc
left_after _ action n new rest v is left = left_same v _ new rest is left

-- A call with this outcome, what is written for it, and what the agent writes after it, if the session continues.
pub step_goes : (old now new held mid holds : Option (List ℕ)) (whole : List ℕ → Session) (came : List ℕ → Taken) (next : Tally → List ℕ → List ℕ → Session) (action : ℕ) (n : Tally) (outcome : TurnOutcome)
    → IsAlong old now held mid whole (λ w rest. after_outcome (came rest).outcome action n (w ++ (came rest).written) (came rest).rest next)
    → IfSome now (λ input. IsTaken (came input) outcome new mid holds)
    → ending_of outcome action n ≡ None
    → IsAlong old new held holds whole (next (counted outcome n))
step_goes None now new held mid holds whole came next action n outcome along taken none = tt
step_goes (Some i) None new held mid holds whole came next action n outcome along taken none = absurd along
step_goes (Some i) (Some r) new held mid holds whole came next action n outcome along taken none =
    let s : Taken = came r in
    let w : List ℕ = along.0 ++ s.written in
    let left : new ≡ Some s.rest = rest_goes outcome action n new s.rest none taken.rest in
    let same : next (counted outcome n) w s.rest ≡ whole i =
    sym (ap (λ (e : Option Verdict). after_ending e (counted outcome n) w s.rest next) none)
    ∙ (ap (λ (x : TurnOutcome). after_outcome x action n w s.rest next) taken.outcome_is ∙ along.2) in
    subst (λ (m : Option (List ℕ)). IsAlong (Some i) m held holds whole (next (counted outcome n))) (sym left) (w, Appends-trans _ _ _ _ _ along.1 taken.written, same)

-- The same, if the session ends here.
pub step_ends : (old now new held mid holds : Option (List ℕ)) (whole : List ℕ → Session) (came : List ℕ → Taken) (next : Tally → List ℕ → List ℕ → Session) (action : ℕ) (n : Tally) (outcome : TurnOutcome) (v : Verdict)
    → IsAlong old now held mid whole (λ w rest. after_outcome (came rest).outcome action n (w ++ (came rest).written) (came rest).rest next)
    → IfSome now (λ input. IsTaken (came input) outcome new mid holds)
    → ending_of outcome action n ≡ Some v
    → IfSome old (λ input. Concludes (whole input) v new held holds)
step_ends None now new held mid holds whole came next action n outcome v along taken is = tt
step_ends (Some i) None new held mid holds whole came next action n outcome v along taken is = absurd along
step_ends (Some i) (Some r) new held mid holds whole came next action n outcome v along taken is =
    let s : Taken = came r in
    let w : List ℕ = along.0 ++ s.written in
    let same : record { verdict = v; written = w; rest = s.rest } ≡ whole i =
    sym (ap (λ (e : Option Verdict). after_ending e (counted outcome n) w s.rest next) is)
    ∙ (ap (λ (x : TurnOutcome). after_outcome x action n w s.rest next) taken.outcome_is ∙ along.2) in
    subst (λ (x : Session). Concludes x v new held holds) same
    (record { verdict_is = refl; written = Appends-trans _ _ _ _ _ along.1 taken.written; left = left_after outcome action n new s.rest v is taken.rest })

-- the beginning, and what is concluded from there on
begins : (old held : Option (List ℕ)) (whole : List ℕ → Session) (from : List ℕ → List ℕ → Session) → ((input : List ℕ) → from [] input ≡ whole input) → IsAlong old old held held whole from
begins None held whole from is = tt
begins (Some i) held whole from is = ([], Appends-nil held, is i)

concludes_on : (old now new held mid holds : Option (List ℕ)) (whole : List ℕ → Session) (from : List ℕ → List ℕ → Session) (result : Result Verdict ConformError)
    → IsAlong old now held mid whole from
    → ((w : List ℕ) (h : Option (List ℕ)) → Appends h mid w → IfOk result (λ v. IfSome now (λ input. Concludes (from w input) v new h holds)))
    → IfOk result (λ v. IfSome old (λ input. Concludes (whole input) v new held holds))
concludes_on old now new held mid holds whole from (Err error) along rest = tt
concludes_on None now new held mid holds whole from (Ok v) along rest = tt
concludes_on (Some i) None new held mid holds whole from (Ok v) along rest = absurd along
concludes_on (Some i) (Some r) new held mid holds whole from (Ok v) along rest = subst (λ (x : Session). Concludes x v new held holds) along.2 (rest along.0 held along.1)

-- a list that begins with this item
begins_with : {A : Type 0} (xs : List A) (x : A) → 1 ≤ length xs → x ≡ get_or xs 0 x → xs ≡ x ∷ drop 1 xs
begins_with [] x some is = absurd (omega arith)
begins_with (y ∷ ys) x some is = ap (λ z. z ∷ ys) (sym is)

-- The turn of the first action and the first line that are left, as the code computes it.
module _ (old now new held mid holds : Option (List ℕ)) (whole : List ℕ → Session) (serf : Bool) (a : ℕ) (config : Config) (made : List AgentCall) (action : ℕ) (n : Tally) (count : ℕ) (sent : List (List ℕ))
    (xs : List Action) (ys : List Line) (x : Action) (y : Line) (due : Option StateDump) (outcome : TurnOutcome) (some : 1 ≤ length xs) (isx : x ≡ get_or xs 0 x) (somey : 1 ≤ length ys) (isy : y ≡ get_or ys 0 y)
    (along : IsAlong old now held mid whole (λ w rest. session_from serf a config made action n w (turns_from count sent xs ys) rest))
    (isd : due ≡ due_of a config (made_after a (turn_at count sent x y) made) (turn_at count sent x y))
    (taken : IfSome now (λ input. IsTaken (taken_of serf config a due (turn_at count sent x y) input) outcome new mid holds)) where
  -- the session that is left after the turn
  abbrev left_from : ℕ → List Action → List Line → Tally → List ℕ → List ℕ → Session
  left_from own xs' ys' m w rest = session_from serf a config (made_after a (turn_at count sent x y) made) (action + 1) m w (turns_from (count + own) sent xs' ys') rest

  here : IsAlong old now held mid whole (λ w rest. session_from serf a config made action n w (turn_at count sent x y ∷ turns_from (count + length y.sent) sent (drop 1 xs) (drop 1 ys)) rest)
  here =
      let F : List Action → List Line → Type 0 = λ p q. IsAlong old now held mid whole (λ w rest. session_from serf a config made action n w (turns_from count sent p q) rest) in
      subst (λ (q : List Line). F (x ∷ drop 1 xs) q) (begins_with ys y somey isy) (subst (λ (p : List Action). F p ys) (begins_with xs x some isx) along)

  came : IfSome now (λ input. IsTaken (taken_at serf a config made (turn_at count sent x y) input) outcome new mid holds)
  came = subst (λ (d : Option StateDump). IfSome now (λ input. IsTaken (taken_of serf config a d (turn_at count sent x y) input) outcome new mid holds)) isd taken

  pub next_ends : (v : Verdict) → ending_of outcome action n ≡ Some v → IfSome old (λ input. Concludes (whole input) v new held holds)
  next_ends v is =
      step_ends old now new held mid holds whole (taken_at serf a config made (turn_at count sent x y)) (left_from (length y.sent) (drop 1 xs) (drop 1 ys)) action n outcome v here came is

  -- with what is left of the lists, as the code computes it
  pub next_goes : (xs' : List Action) (ys' : List Line) (own : ℕ) (m : Tally) → ending_of outcome action n ≡ None
      → xs' ≡ drop 1 xs → ys' ≡ drop 1 ys → own ≡ length y.sent → m ≡ counted outcome n
      → IsAlong old new held holds whole (left_from own xs' ys' m)
  next_goes xs' ys' own m none e1 e2 e3 e4 =
      let F : List Action → List Line → ℕ → Tally → Type 0 = λ p q o k. IsAlong old new held holds whole (left_from o p q k) in
      subst (λ (p : List Action). F p ys' own m) (sym e1) (subst (λ (q : List Line). F (drop 1 xs) q own m) (sym e2)
      (subst (λ (o : ℕ). F (drop 1 xs) (drop 1 ys) o m) (sym e3) (subst (λ (k : Tally). F (drop 1 xs) (drop 1 ys) (length y.sent) k) (sym e4)
      (step_goes old now new held mid holds whole (taken_at serf a config made (turn_at count sent x y)) (left_from (length y.sent) (drop 1 xs) (drop 1 ys)) action n outcome here came none))))

-- A turn adds at most one to each count.
pub counted_few : (outcome : TurnOutcome) (n : Tally) (k : ℕ) → IsFew n k → IsFew (counted outcome n) (k + 1)
counted_few asks.Agrees n k few = let c = few.calls in let l = few.dumps in let u = few.unsupported in record { calls = omega arith; dumps = omega arith; unsupported = omega arith }
counted_few _ n k few = let c = few.calls in let l = few.dumps in let u = few.unsupported in record { calls = omega arith; dumps = omega arith; unsupported = omega arith }

-- a `look` after a call that agrees

rest_dumped : (dump : StateDump) (outcome : TurnOutcome) (new : Option (List ℕ)) (rest : List ℕ) → RestIs outcome new rest → RestIs (with_dumped dump outcome) new rest
rest_dumped dump asks.Agrees new rest is = is
rest_dumped dump _ new rest is = is

rest_agrees : (outcome : TurnOutcome) (new : Option (List ℕ)) (rest : List ℕ) → agrees outcome ≡ true → RestIs outcome new rest → new ≡ Some rest
rest_agrees asks.Agrees new rest on is = is
rest_agrees _ new rest on is = cc

pub then_on : (serf : Bool) (dump : StateDump) (s : Taken) (outcome dumped : TurnOutcome) (old new held mid holds : Option (List ℕ)) → IsTaken s outcome old held mid → agrees outcome ≡ true
    → Appends mid holds dump_line → IfSome old (λ input. IsOutcome (dumped_of serf dump input) dumped new)
    → IsTaken (then_dumped serf (Some dump) s) (with_dumped dump dumped) new held holds
then_on serf dump s outcome dumped old new held mid holds taken on written is =
    let same : agrees s.outcome ≡ true = ap agrees (sym taken.outcome_is) ∙ on in
    let left : old ≡ Some s.rest = rest_agrees outcome old s.rest on taken.rest in
    let l : OutcomeOf = dumped_of serf dump s.rest in
    let at : IsOutcome l dumped new = subst (λ (o : Option (List ℕ)). IfSome o (λ input. IsOutcome (dumped_of serf dump input) dumped new)) left is in
    subst (λ (b : Bool). IsTaken (dump_if b serf dump s) (with_dumped dump dumped) new held holds) (sym same)
    (record { outcome_is = ap (with_dumped dump) at.outcome_is; written = Appends-trans _ _ _ _ _ taken.written written; rest = rest_dumped dump dumped new l.rest at.rest })

-- the `look` after the last call

last_left : (outcome : TurnOutcome) (action : ℕ) (n : Tally) (dump : StateDump) (new : Option (List ℕ)) (rest : List ℕ) → RestIs outcome new rest → IsLeft (last_of outcome action n dump).end new rest
last_left asks.Agrees action n dump new rest is = is
last_left _ action n dump new rest is = is

pub last_concludes : (serf : Bool) (a : ℕ) (config : Config) (made : List AgentCall) (action : ℕ) (n : Tally) (dump : StateDump) (dumped : TurnOutcome) (v : Verdict) (old new held mid holds : Option (List ℕ)) (w : List ℕ)
    → dump ≡ dump_after config made → v ≡ last_of dumped action n dump → Appends held mid w → Appends mid holds dump_line
    → IfSome old (λ input. IsOutcome (dumped_of serf dump input) dumped new)
    → IfSome old (λ input. Concludes (session_from serf a config made action n w [] input) v new held holds)
last_concludes serf a config made action n dump dumped v None new held mid holds w isl isv first second is = tt
last_concludes serf a config made action n dump dumped v (Some i) new held mid holds w isl isv first second is =
    let l : OutcomeOf = dumped_of serf dump i in
    let C : StateDump → Type 0 =
    λ k. Concludes (record { verdict = last_of (dumped_of serf k i).outcome action n k; written = w ++ dump_line; rest = (dumped_of serf k i).rest }) v new held holds in
    subst C isl (record {
      verdict_is = isv ∙ ap (λ (x : TurnOutcome). last_of x action n dump) is.outcome_is;
      written = Appends-trans _ _ _ _ _ first second;
      left = subst (λ (u : Verdict). IsLeft u.end new l.rest) (sym isv) (last_left dumped action n dump new l.rest is.rest);
    })

-- a call, and the `look` after it
pub outcome_then : (old mid new held hmid holds : Option (List ℕ)) (serf : Bool) (due : Option StateDump) (line given : List ℕ) (wanted : Said) (outcome : TurnOutcome) (came : Result TurnOutcome ConformError)
    → IfSome old (λ input. IsOutcome (outcome_for given wanted input) outcome mid) → Appends held hmid line
    → ((s : Taken) (h : Option (List ℕ)) → IsTaken s outcome mid h hmid → IfOk came (λ x. IsTaken (then_dumped serf due s) x new h holds))
    → IfOk came (λ x. IfSome old (λ input. IsTaken (then_dumped serf due (with_line line (outcome_for given wanted input))) x new held holds))
outcome_then old mid new held hmid holds serf due line given wanted outcome (Err error) is written then = tt
outcome_then None mid new held hmid holds serf due line given wanted outcome (Ok x) is written then = tt
outcome_then (Some i) mid new held hmid holds serf due line given wanted outcome (Ok x) is written then =
    then (with_line line (outcome_for given wanted i)) held (record { outcome_is = is.outcome_is; written = written; rest = is.rest })

-- No turn is left.
no_turns : (count : ℕ) (sent : List (List ℕ)) (xs : List Action) (ys : List Line) → length xs ≡ 0 → turns_from count sent xs ys ≡ []
no_turns count sent [] ys none = refl
no_turns count sent (x ∷ xs) ys none = absurd (omega (arith, none))

pub along_last : (old now new held mid holds : Option (List ℕ)) (whole : List ℕ → Session) (serf : Bool) (a : ℕ) (config : Config) (made : List AgentCall) (action : ℕ) (n : Tally) (count : ℕ) (sent : List (List ℕ))
    (xs : List Action) (ys : List Line) (result : Result Verdict ConformError) → length xs ≡ 0
    → IsAlong old now held mid whole (λ w rest. session_from serf a config made action n w (turns_from count sent xs ys) rest)
    → ((w : List ℕ) (h : Option (List ℕ)) → Appends h mid w → IfOk result (λ v. IfSome now (λ input. Concludes (session_from serf a config made action n w [] input) v new h holds)))
    → IfOk result (λ v. IfSome old (λ input. Concludes (whole input) v new held holds))
along_last old now new held mid holds whole serf a config made action n count sent xs ys result none along =
    concludes_on old now new held mid holds whole (λ w rest. session_from serf a config made action n w [] rest) result
    (subst (λ (ts : List Turn). IsAlong old now held mid whole (λ w rest. session_from serf a config made action n w ts rest)) (no_turns count sent xs ys none) along)

-- an agent that was opened, and the turns after that, with these lines and packets
pub opened_all : (old new fin held mid last : Option (List ℕ)) (outcome : TurnOutcome) (serf : Bool) (a : ℕ) (config : Config) (n : Tally) (actions : List Action) (lines lines' : List Line) (sent sent' : List (List ℕ))
    (result : Result Verdict ConformError)
    → IfSome old (λ input. IsTaken (opened_of serf config input) outcome new held mid) → ending_of outcome 0 no_calls ≡ None → n ≡ counted outcome no_calls
    → ((w : List ℕ) (from : Option (List ℕ)) → Appends from mid w
    → IfOk result (λ v. IfSome new (λ r. Concludes (session_from serf a config [] 1 n w (turns_from 0 sent' actions lines') r) v fin from last)))
    → lines' ≡ lines → sent' ≡ sent
    → IfOk result (λ v. IfSome old (λ input. Concludes (session serf a config (turns_from 0 sent actions lines) input) v fin held last))
opened_all old new fin held mid last outcome serf a config n actions lines lines' sent sent' result is none isn rest e1 e2 =
    let whole : List ℕ → Session = session serf a config (turns_from 0 sent actions lines) in
    let next : Tally → List ℕ → List ℕ → Session = λ m w r. session_from serf a config [] 1 m w (turns_from 0 sent actions lines) r in
    let first : List ℕ → List ℕ → Session = λ w r. after_outcome (opened_of serf config r).outcome 0 no_calls (w ++ (opened_of serf config r).written) (opened_of serf config r).rest next in
    let P : List Line → List (List ℕ) → Tally → Type 0 =
    λ ls ss m. (w : List ℕ) (from : Option (List ℕ)) → Appends from mid w → IfOk result (λ v. IfSome new (λ r. Concludes (session_from serf a config [] 1 m w (turns_from 0 ss actions ls) r) v fin from last)) in
    concludes_on old new fin held mid last whole (next (counted outcome no_calls)) result
    (step_goes old old new held held mid whole (opened_of serf config) next 0 no_calls outcome (begins old held whole first (λ input. refl)) is none)
    (subst (λ (m : Tally). P lines sent m) isn (subst (λ (ss : List (List ℕ)). P lines ss n) e2 (subst (λ (ls : List Line). P ls sent' n) e1 rest)))
