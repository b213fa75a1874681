-- Lists of calls that are tried one after another.
use Rattle.serf_conform.proofs.Names.{Bool, List, None, Option, Some, [], ap, append_assoc, arith, drop, length, map, subst, sym, take, ℕ, ◌++◌, ◌+◌, ◌∙◌, ◌∷◌, ◌≡◌, ◌≤◌, Appends-trans, append-nil, map-range_with_len_more, fold-append, Appends, range_with_len, IfSome, Config, Session, IsSublist, deletions, IsNarrowing, IsLeftBy, IsReached, IsShrunk, IsTried, NarrowsTo, ShrinksTo, Trials, after_trial, failed_by, trial, trials, Call, Narrowed, Shrunk, Outcome}
use Rattle.serf_model.specs.declared.action.Action.{Action}
use Rattle.serf_model.specs.Trace.{Turn, outcome_of, turns_of}
use Rattle.serf_schedule.specs.Line.{Parsed}
use Rattle.serf_conform.specs.AgentCalls.{alone}
use Rattle.serf_conform.specs.Case.{IsRunOf, turns_in}
use Rattle.serf_conform.specs.Session.{Concludes, IsLeft, session}
use Rattle.serf_conform.specs.Trials as ended
use Rattle.serf_conform.specs.declared.sweep.Case.{Case}
use Rattle.serf_conform.specs.declared.verdict.End.{End}
use Rattle.serf_conform.specs.declared.verdict.End.TheVariants as ends
use Rattle.serf_conform.specs.declared.verdict.Verdict.{Verdict}
use Rattle.serf_conform.specs.declared.trying.Outcome.TheVariants as outcomes
use Rattle.serf_conform.proofs.SublistLemmas.{removed-sublist, sublist-refl, sublist-trans}

-- what the reader has left when a comparison has ended
left_by : (e : End) (new : Option (List ℕ)) (rest : List ℕ) → IsLeft e new rest → IsLeftBy (ended.outcome_of e) new rest
left_by ends.AllAgree new rest left = left
left_by ends.OwnRule new rest left = left
left_by ends.Unsupported new rest left = left
left_by (ends.Differs text) new rest left = left
left_by ends.Ended new rest left = tt

-- the schedule of a trial was run, and the agent was compared with this run
pub tried_by : (serf : Bool) (config : Config) (calls : List Call) (p : Parsed) (case : Case) (acts : List Action) (verdict : Verdict) (outcome : Outcome) (old new from to : Option (List ℕ))
    → p ≡ alone config calls → IsRunOf p case → acts ≡ case.actions.items → outcome ≡ ended.outcome_of verdict.end
    → IfSome old (λ input. Concludes (session serf 0 config (turns_of acts (outcome_of case.trace)) input) verdict new from to)
    → IfSome old (λ input. IsTried (trial serf config calls input) outcome new from to)
tried_by serf config calls p case acts verdict outcome None new from to same run acted is holds = tt
tried_by serf config calls p case acts verdict outcome (Some input) new from to same run acted is holds =
    let turns : turns_of acts (outcome_of case.trace) ≡ turns_in (alone config calls) =
    ap (λ (made : List Action). turns_of made (outcome_of case.trace)) (acted ∙ run.actions) ∙ ap (turns_of p.actions) run.trace ∙ ap turns_in same in
    let s : Session = trial serf config calls input in
    let concludes : Concludes s verdict new from to = subst (λ (ts : List Turn). Concludes (session serf 0 config ts input) verdict new from to) turns holds in
    record {
      outcome_is = is ∙ ap (λ (v : Verdict). ended.outcome_of v.end) concludes.verdict_is;
      written = concludes.written;
      left = subst (λ (o : Outcome). IsLeftBy o new s.rest) (sym is) (left_by verdict.end new s.rest concludes.left);
    }

-- one more list
trials-push : (serf : Bool) (config : Config) (before last : List (List Call)) (cand : List Call) (input : List ℕ)
    → trials serf config (before ++ (last ++ cand ∷ [])) input
    ≡ after_trial cand (trials serf config (before ++ last) input) (trial serf config cand (trials serf config (before ++ last) input).rest)
trials-push serf config before last cand input =
    ap (λ (l : List (List Call)). trials serf config l input) (sym (append_assoc before last (cand ∷ [])))
    ∙ fold-append (λ (s : Trials) (calls : List Call). after_trial calls s (trial serf config calls s.rest)) (record { failed = None; written = []; rest = input }) (before ++ last) (cand ∷ [])

-- A trial of one more list, which fails. This list then replaces the one that failed last.
pub reach_on : (serf : Bool) (config : Config) (calls kept kept' cand : List Call) (last : List (List Call)) (input : List ℕ) (mid new from at to : Option (List ℕ)) (outcome : Outcome)
    → IsNarrowing serf config calls kept last input mid from at
    → IfSome mid (λ rest. IsTried (trial serf config cand rest) outcome new at to)
    → failed_by outcome cand (Some kept) ≡ Some kept' → IsSublist kept' calls
    → (r : IsReached serf config calls kept' (last ++ cand ∷ []) input from to)
    × IsLeftBy outcome new (trials serf config (r.before ++ (last ++ cand ∷ [])) input).rest
reach_on serf config calls kept kept' cand last input mid new from at to outcome along tried is sub =
    let s : Trials = trials serf config (along.reached.before ++ last) input in
    let t : Session = trial serf config cand s.rest in
    let came : IsTried t outcome new at to = subst (λ (m : Option (List ℕ)). IfSome m (λ rest. IsTried (trial serf config cand rest) outcome new at to)) along.left tried in
    let more = sym (trials-push serf config along.reached.before last cand input) in
    let failed : (after_trial cand s t).failed ≡ Some kept' =
    ap (λ (o : Outcome). failed_by o cand s.failed) (sym came.outcome_is) ∙ (ap (λ (f : Option (List Call)). failed_by outcome cand f) along.reached.failed ∙ is) in (
      record {
        before = along.reached.before;
        sublist = sub;
        failed = subst (λ (x : Trials). x.failed ≡ Some kept') more failed;
        written = subst (λ (x : Trials). Appends from to x.written) more (Appends-trans _ _ _ _ _ along.reached.written came.written);
      },
      subst (λ (x : Trials). IsLeftBy outcome new x.rest) more came.left,
    )

-- The lists that were tried last don't have to be known.
pub reach_less : (serf : Bool) (config : Config) (calls kept : List Call) (last : List (List Call)) (input : List ℕ) (from to : Option (List ℕ))
    → IsReached serf config calls kept last input from to → IsReached serf config calls kept [] input from to
reach_less serf config calls kept last input from to reached =
    let same : reached.before ++ last ≡ (reached.before ++ last) ++ [] = sym (append-nil (reached.before ++ last)) in
    record {
      before = reached.before ++ last;
      sublist = reached.sublist;
      failed = subst (λ (l : List (List Call)). (trials serf config l input).failed ≡ Some kept) same reached.failed;
      written = subst (λ (l : List (List Call)). Appends from to (trials serf config l input).written) same reached.written;
    }

pub along_less : (serf : Bool) (config : Config) (calls kept : List Call) (last : List (List Call)) (input : List ℕ) (now from to : Option (List ℕ))
    → IsNarrowing serf config calls kept last input now from to → IsNarrowing serf config calls kept [] input now from to
along_less serf config calls kept last input now from to along =
    let same : along.reached.before ++ last ≡ (along.reached.before ++ last) ++ [] = sym (append-nil (along.reached.before ++ last)) in
    record {
      reached = record {
        before = along.reached.before ++ last;
        sublist = along.reached.sublist;
        failed = subst (λ (l : List (List Call)). (trials serf config l input).failed ≡ Some kept) same along.reached.failed;
        written = subst (λ (l : List (List Call)). Appends from to (trials serf config l input).written) same along.reached.written;
      };
      left = subst (λ (l : List (List Call)). now ≡ Some (trials serf config l input).rest) same along.left;
    }

-- a trial that agrees
pub along_agrees : (serf : Bool) (config : Config) (calls kept cand : List Call) (last : List (List Call)) (input : List ℕ) (mid new from at to : Option (List ℕ)) (outcome : Outcome)
    → IsNarrowing serf config calls kept last input mid from at
    → IfSome mid (λ rest. IsTried (trial serf config cand rest) outcome new at to)
    → outcome ≡ outcomes.Agrees
    → IsNarrowing serf config calls kept (last ++ cand ∷ []) input new from to
along_agrees serf config calls kept cand last input mid new from at to outcome along tried is =
    let both = reach_on serf config calls kept kept cand last input mid new from at to outcome along tried
    (ap (λ (o : Outcome). failed_by o cand (Some kept)) is) along.reached.sublist in
    record { reached = both.0; left = subst (λ (o : Outcome). IsLeftBy o new (trials serf config (both.0.before ++ (last ++ cand ∷ [])) input).rest) is both.1 }

-- a trial that fails
pub along_fails : (serf : Bool) (config : Config) (calls kept cand : List Call) (last : List (List Call)) (input : List ℕ) (mid new from at to : Option (List ℕ)) (outcome : Outcome)
    → IsNarrowing serf config calls kept last input mid from at
    → IfSome mid (λ rest. IsTried (trial serf config cand rest) outcome new at to)
    → outcome ≡ outcomes.Fails → IsSublist cand calls
    → IsNarrowing serf config calls cand [] input new from to
along_fails serf config calls kept cand last input mid new from at to outcome along tried is sub =
    let both = reach_on serf config calls kept cand cand last input mid new from at to outcome along tried
    (ap (λ (o : Outcome). failed_by o cand (Some kept)) is) sub in
    along_less serf config calls cand (last ++ cand ∷ []) input new from to
    (record { reached = both.0; left = subst (λ (o : Outcome). IsLeftBy o new (trials serf config (both.0.before ++ (last ++ cand ∷ [])) input).rest) is both.1 })

-- a trial during which the agent ends
pub reach_ends : (serf : Bool) (config : Config) (calls kept cand : List Call) (last : List (List Call)) (input : List ℕ) (mid new from at to : Option (List ℕ)) (outcome : Outcome)
    → IsNarrowing serf config calls kept last input mid from at
    → IfSome mid (λ rest. IsTried (trial serf config cand rest) outcome new at to)
    → outcome ≡ outcomes.Ended
    → IsReached serf config calls kept [] input from to
reach_ends serf config calls kept cand last input mid new from at to outcome along tried is =
    reach_less serf config calls kept (last ++ cand ∷ []) input from to
    (reach_on serf config calls kept kept cand last input mid new from at to outcome along tried
    (ap (λ (o : Outcome). failed_by o cand (Some kept)) is) along.reached.sublist).0

-- the first trial, which is that of all calls
pub along_first : (serf : Bool) (config : Config) (calls : List Call) (old new from to : Option (List ℕ)) (outcome : Outcome)
    → IfSome old (λ input. IsTried (trial serf config calls input) outcome new from to)
    → outcome ≡ outcomes.Fails → IsSublist calls calls
    → IfSome old (λ input. IsNarrowing serf config calls calls [] input new from to)
along_first serf config calls None new from to outcome tried is sub = tt
along_first serf config calls (Some i) new from to outcome tried is sub =
    record {
      reached = record {
        before = calls ∷ [];
        sublist = sub;
        failed = ap (λ (o : Outcome). failed_by o calls None) (sym tried.outcome_is ∙ is);
        written = tried.written;
      };
      left = subst (λ (o : Outcome). IsLeftBy o new (trial serf config calls i).rest) is tried.left;
    }

pub none_first : (serf : Bool) (config : Config) (calls : List Call) (old new from to : Option (List ℕ)) (outcome : Outcome)
    → IfSome old (λ input. IsTried (trial serf config calls input) outcome new from to)
    → failed_by outcome calls None ≡ None
    → IfSome old (λ input. (trials serf config (calls ∷ []) input).failed ≡ None)
none_first serf config calls None new from to outcome tried is = tt
none_first serf config calls (Some i) new from to outcome tried is = ap (λ (o : Outcome). failed_by o calls None) (sym tried.outcome_is) ∙ is

-- the result for fewer calls, once it is known which result it is
pub narrowed : (serf : Bool) (config : Config) (kept kept' : List Call) (singles singles' : Bool) (n n' : Narrowed) (mid new at to : Option (List ℕ)) → kept' ≡ kept
    → ((whole : List Call) (input : List ℕ) (from : Option (List ℕ)) → IsNarrowing serf config whole kept' [] input mid from at → NarrowsTo serf config whole kept' singles n input new from to)
    → n ≡ n' → singles ≡ singles' → (whole : List Call) (input : List ℕ) (from : Option (List ℕ))
    → IsNarrowing serf config whole kept [] input mid from at → NarrowsTo serf config whole kept singles' n' input new from to
narrowed serf config kept kept' singles singles' n n' mid new at to same narrows is these whole input from along =
    subst (λ (k : List Call). NarrowsTo serf config whole k singles' n' input new from to) same
    (subst (λ (b : Bool). NarrowsTo serf config whole kept' b n' input new from to) these
    (subst (λ (m : Narrowed). NarrowsTo serf config whole kept' singles m input new from to) is
    (narrows whole input from (subst (λ (k : List Call). IsNarrowing serf config whole k [] input mid from at) (sym same) along))))

-- a trial that fails, with what is left after several calls in a row were left out
pub along_cut : (serf : Bool) (config : Config) (calls kept cand : List Call) (i k : ℕ) (last : List (List Call)) (input : List ℕ) (mid new from at to : Option (List ℕ)) (outcome : Outcome)
    → IsNarrowing serf config calls kept last input mid from at
    → IfSome mid (λ rest. IsTried (trial serf config cand rest) outcome new at to)
    → outcome ≡ outcomes.Fails → cand ≡ take i kept ++ drop (i + k) kept
    → IsNarrowing serf config calls cand [] input new from to
along_cut serf config calls kept cand i k last input mid new from at to outcome along tried is left =
    let below : i ≤ i + k = omega arith in
    along_fails serf config calls kept cand last input mid new from at to outcome along tried is
    (sublist-trans cand kept calls (subst (λ (l : List Call). IsSublist l kept) (sym left) (removed-sublist i (i + k) kept below)) along.reached.sublist)

-- a trial that agrees, without the next call
pub along_one : (serf : Bool) (config : Config) (calls kept cand : List Call) (n : ℕ) (input : List ℕ) (mid new from at to : Option (List ℕ)) (outcome : Outcome)
    → IsNarrowing serf config calls kept (map (λ i. take i kept ++ drop (i + 1) kept) (range_with_len 0 n)) input mid from at
    → IfSome mid (λ rest. IsTried (trial serf config cand rest) outcome new at to)
    → outcome ≡ outcomes.Agrees → cand ≡ take n kept ++ drop (n + 1) kept
    → IsNarrowing serf config calls kept (map (λ i. take i kept ++ drop (i + 1) kept) (range_with_len 0 (n + 1))) input new from to
along_one serf config calls kept cand n input mid new from at to outcome along tried is left =
    let f : ℕ → List Call = λ i. take i kept ++ drop (i + 1) kept in
    let same : 0 + n ≡ n = omega arith in
    let more : map f (range_with_len 0 n) ++ cand ∷ [] ≡ map f (range_with_len 0 (n + 1)) =
    ap (λ (l : List Call). map f (range_with_len 0 n) ++ l ∷ []) left ∙ sym (map-range_with_len_more f 0 n n same) in
    subst (λ (l : List (List Call)). IsNarrowing serf config calls kept l input new from to) more
    (along_agrees serf config calls kept cand (map f (range_with_len 0 n)) input mid new from at to outcome along tried is)

-- All single deletions were tried.
pub along_all : (serf : Bool) (config : Config) (calls kept : List Call) (n : ℕ) (input : List ℕ) (now from to : Option (List ℕ)) → n ≡ length kept
    → IsNarrowing serf config calls kept (map (λ i. take i kept ++ drop (i + 1) kept) (range_with_len 0 n)) input now from to
    → IsNarrowing serf config calls kept (deletions kept) input now from to
along_all serf config calls kept n input now from to all along =
    subst (λ (m : ℕ). IsNarrowing serf config calls kept (map (λ i. take i kept ++ drop (i + 1) kept) (range_with_len 0 m)) input now from to) all along

-- the first trial, and what becomes of the calls after it
pub shrunk_first : (serf : Bool) (config : Config) (calls calls' : List Call) (old mid from at to : Option (List ℕ)) (outcome : Outcome) (shrunk : Shrunk)
    → calls' ≡ calls → IfSome old (λ input. IsTried (trial serf config calls' input) outcome mid from at) → outcome ≡ outcomes.Fails
    → ((whole : List Call) (input : List ℕ) (f : Option (List ℕ)) → IsNarrowing serf config whole calls [] input mid f at → IsShrunk serf config whole shrunk input f to)
    → IfSome old (λ input. ShrinksTo serf config calls (Some shrunk) input from to)
shrunk_first serf config calls calls' None mid from at to outcome shrunk same tried fails later = tt
shrunk_first serf config calls calls' (Some i) mid from at to outcome shrunk same tried fails later =
    later calls i from (along_first serf config calls (Some i) mid from at outcome
    (subst (λ (c : List Call). IsTried (trial serf config c i) outcome mid from at) same tried) fails (sublist-refl calls))
