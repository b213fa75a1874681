-- The text that a run writes is the trace of its schedule.
use Rattle.serf_replay.proofs.Names.{Err, List, Ok, Option, Result, [], ap, inr, length, refl, subst, sym, ℕ, ◌++◌, ◌+◌, ◌∙◌, ◌∷◌, ◌≡◌, All, BadLine, lines_of, StopsAt, Cause, StreamError, Config, run_of, trace_of, KeepsPromises, AreConfigs, HasSizes, CanTell, turns_of, Action, SchedulesAreSized, SchedulesAreTold, output_of, text_of, HasRun, HasStreamed, is_refused_by, schedule_in, tells_trace, SchedulesTraceRuns, TracesRun, IsHalted, IsHaltedAt, run_in}
use Rattle.std.proofs.Common.{append-nil}
use Rattle.serf_schedule.specs.declared.run.Run.{Run}

pub traces-run : SchedulesAreSized → SchedulesAreTold → ((configs : List Config) (done left : List Action) → AreConfigs configs → turns_of (done ++ left) (trace_of (run_of configs done)) ≡ (run_of configs done).turns)
    → ((configs : List Config) (actions : List Action) → AreConfigs configs → CanTell configs actions → All HasSizes actions → KeepsPromises configs (run_of configs actions)) → SchedulesTraceRuns
traces-run sized told turns promises bytes said reads settings =
    let sizes : All HasSizes said.actions = sized bytes said reads in (
      ap text_of reads,
      record {
        schedule = said;
        reads = reads;
        settings = settings;
        sizes = sizes;
        text_is = refl;
        turns = ap (λ l. turns_of l (trace_of (run_in said))) (sym (append-nil said.actions)) ∙ turns said.configs said.actions [] settings;
        promises = promises said.configs said.actions settings (inr (told bytes said reads)) sizes;
      },
    )

-- the text is the trace of a run
abbrev pub Traces : {A T : Type 0} → A → T → List Config → List Action → List ℕ → Type 0
Traces options t configs actions text = tells_trace configs actions text

pub whole : {A T : Type 0} (options : A) → SchedulesTraceRuns → (run : Run T) (bytes text : List ℕ) → HasRun (Traces options) run (lines_of bytes) text → (output_of bytes ≡ Ok text) × TracesRun bytes text
whole options runs run bytes text h =
    let all = runs bytes h.said h.reads h.settings in
    (all.0 ∙ ap (λ (t : List ℕ). let ok : Result (List ℕ) BadLine = Ok t in ok) (sym h.tells), subst (TracesRun bytes) (sym h.tells) all.1)

pub bad-output : (bytes : List ℕ) (lines more : List (List ℕ)) (line : List ℕ) (number : ℕ) (cause : Cause) → lines_of bytes ≡ lines ++ line ∷ more → number ≡ length lines + 1 → is_refused_by lines line cause
    → output_of bytes ≡ Err (record { line = number; cause = cause })
bad-output bytes lines more line number cause splits counted why =
    ap (λ l. text_of (schedule_in l)) splits ∙ ap text_of (why more)
    ∙ ap (λ n. let bad : BadLine = record { line = n; cause = cause } in let err : Result (List ℕ) BadLine = Err bad in err) (sym counted)

pub halted : {A T : Type 0} (streams : A → Type 0) (error : StreamError Cause) (bytes : List ℕ) (first now : Option (List ℕ)) → StopsAt {J = Run T} (HasStreamed streams Traces) is_refused_by error (lines_of bytes) first now → IsHalted error bytes first now
halted streams error bytes first now s =
    let h : HasRun (Traces s.tells.0) s.job s.lines s.text = s.tells.2 in
    record {
      lines = s.lines;
      left = s.left;
      splits = s.splits;
      schedule = h.said;
      reads = h.reads;
      text = s.text;
      tells = h.tells;
      written = s.written;
      cause = s.cause;
    }

pub halted-at : {A T : Type 0} (streams : A → Type 0) (told : A → T → List Config → List Action → List ℕ → Type 0) (error : StreamError Cause) (bytes : List ℕ) (first now : Option (List ℕ)) → StopsAt (HasStreamed streams told) is_refused_by error (lines_of bytes) first now → IsHaltedAt error bytes
halted-at streams told error bytes first now s =
    let h : HasRun (told s.tells.0) s.job s.lines s.text = s.tells.2 in
    record {
      lines = s.lines;
      left = s.left;
      splits = s.splits;
      schedule = h.said;
      reads = h.reads;
      cause = s.cause;
    }
