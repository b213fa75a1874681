-- The trace that a run returns shows a run of the model, which keeps all promises.
use Rattle.serf_world.proofs.Names.{Err, List, Ok, Result, [], ap, arith, drop, inl, inr, length, refl, sym, take, take_all, ◌++◌, ◌∙◌, ◌∷◌, ◌≡◌, ◌⊎◌, take-append-drop, All-take, All, Config, run_of, start, trace_of, KeepsPromises, AreConfigs, IsRun, ShowsKept, ShowsRun, HasSizes, BringsTold, CanTell, outcome_of, turns_of, Action, RunError, Trace}
use Rattle.std.specs.Prelude.{ℕ}
use Rattle.serf_model.specs.declared.error.RunError.TheVariants as runs
use Rattle.serf_model.specs.Trace.{Outcome}

-- the law `turns_shown`, and the clauses of `run_promises`
abbrev pub AreShown : Type 0
AreShown = (configs : List Config) (done left : List Action) → AreConfigs configs → turns_of (done ++ left) (trace_of (run_of configs done)) ≡ (run_of configs done).turns

abbrev pub AreKept : Type 0
AreKept = (configs : List Config) (actions : List Action) → AreConfigs configs → CanTell configs actions → All HasSizes actions → KeepsPromises configs (run_of configs actions)

abbrev pub IsKeptAtStart : Type 0
IsKeptAtStart = (configs : List Config) → KeepsPromises configs (start configs)

-- the trace of the first n actions
shows-front : AreShown → AreKept → (configs : List Config) (actions : List Action) (trace : Outcome) (n : ℕ) → AreConfigs configs → All HasSizes actions → All BringsTold actions → trace ≡ trace_of (run_of configs (take n actions)) → ShowsRun configs actions trace
shows-front shown kept configs actions trace n ok sized told is = record {
  count = n;
  trace_is = is;
  turns = ap (turns_of actions) is ∙ ap (λ l. turns_of l (trace_of (run_of configs (take n actions)))) (sym (take-append-drop n actions)) ∙ shown configs (take n actions) (drop n actions) ok;
  keeps = kept configs (take n actions) ok (inr (All-take BringsTold n actions told)) (All-take HasSizes n actions sized);
}

no-turns : (actions : List Action) → turns_of actions (record { lines = []; sent = [] }) ≡ []
no-turns [] = refl
no-turns (action ∷ actions) = refl

-- the trace of a run without actions
shows-nothing : IsKeptAtStart → (configs : List Config) (actions : List Action) (trace : Outcome) → trace ≡ trace_of (start configs) → ShowsRun configs actions trace
shows-nothing kept configs actions trace is = record { count = 0; trace_is = is; turns = ap (turns_of actions) is ∙ no-turns actions; keeps = kept configs }

pub shows-kept : AreShown → AreKept → IsKeptAtStart → (configs : List Config) (actions : List Action) (result : Result Trace RunError) → All HasSizes actions → All BringsTold actions → IsRun configs actions result → ShowsKept configs actions result
shows-kept shown kept at_start configs actions (Ok trace) sized told h =
    shows-front shown kept configs actions (outcome_of trace) (length actions) h.0 sized told (h.1 ∙ ap (λ l. trace_of (run_of configs l)) (sym (take_all (length actions) actions (omega arith))))
shows-kept shown kept at_start configs actions (Err (runs.NameTwice n)) sized told h = tt
shows-kept shown kept at_start configs actions (Err (runs.BadConfig n)) sized told h = tt
shows-kept shown kept at_start configs actions (Err (runs.OutOfMemory trace)) sized told h = by h.2
  where
    by : (h.0 ≡ 0) ⊎ AreConfigs configs → ShowsRun configs actions (outcome_of trace)
    by (inl nothing) = shows-nothing at_start configs actions (outcome_of trace) (h.3 ∙ ap (λ n. trace_of (run_of configs (take n actions))) nothing)
    by (inr ok) = shows-front shown kept configs actions (outcome_of trace) h.0 ok sized told h.3
