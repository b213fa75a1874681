-- What every run promises about acks and responses, whatever is done in it.
use Rattle.serf_model.proofs.Names.{List, recursion_from_All, All, Config, Below, Run, after, run_of, start, AreConfigs, HasSizes, CanTell, Action}
use Rattle.serf_model.proofs.AnswerLaws.{IsServed, served-start, served-step}
use Rattle.serf_model.proofs.CountingPromises.{IsCounting, counting-start, counting-step}
use Rattle.serf_model.proofs.RunLaws.{CanTellIt, IsAfter, after-step, tell-each}
use Rattle.serf_model.proofs.StartLaws.{after-start}
use Rattle.serf_model.proofs.TurnLaws.{both-each, fold_keeps_at}

-- what each action preserves
record IsCountingOn (configs : List Config) (r : Run) : Type 0 where
  going : IsAfter configs r.cluster r.turns
  counting : IsCounting r.cluster r.turns

pub counting-run : Below → (configs : List Config) (actions : List Action) → AreConfigs configs → CanTell configs actions → IsCounting (run_of configs actions).cluster (run_of configs actions).turns
counting-run lower configs actions ok told =
    (fold_keeps_at (IsCountingOn configs) (CanTellIt configs) after (start configs) actions (record { going = after-start lower configs ok; counting = counting-start configs }) (tell-each configs actions told)
    (λ r action tells h. record { going = after-step lower configs r action tells h.going; counting = counting-step lower configs r action h.going h.counting })).counting

record IsServingOn (configs : List Config) (r : Run) : Type 0 where
  going : IsAfter configs r.cluster r.turns
  served : IsServed configs r.cluster r.turns

pub served-run : Below → (configs : List Config) (actions : List Action) → All HasSizes actions → AreConfigs configs → CanTell configs actions → IsServed configs (run_of configs actions).cluster (run_of configs actions).turns
served-run lower configs actions sized ok told =
    (fold_keeps_at (IsServingOn configs) (λ action. HasSizes action × CanTellIt configs action) after (start configs) actions (record { going = after-start lower configs ok; served = served-start configs })
    (both-each HasSizes (CanTellIt configs) actions (recursion_from_All HasSizes actions sized) (tell-each configs actions told))
    (λ r action has h. record { going = after-step lower configs r action has.1 h.going; served = served-step lower configs r action has.0 has.1 h.going h.served })).served
