use Rattle.serf_conform.proofs.Names.{refl, le-leb, is_serf}
use Rattle.serf_conform.specs.declared.shrinking.Narrowed.TheVariants as narrows
use Rattle.serf_conform.proofs.TrialLemmas.{along_less, narrowed}
use Rattle.serf_conform.proofs.shrinking.settle.Goals as goal

pub steps-preserved-in-Shorter : goal.steps-preserved-in-Shorter
steps-preserved-in-Shorter g c = λ whole input from h.
    narrowed (is_serf c.args.rules) c.args.config.now _ _ _ _ _ (narrows.Shorter c.in-Shorter.shorter) _ _ _ _ c.deref.ensures.value
    c.in_ok-shorter.ensures.narrows c.in-Shorter.is refl whole input from (c.steps.invariant whole input from h)

pub returns-in-Stays : goal.returns-in-Stays
returns-in-Stays g c = λ whole input from h.
    (narrowed (is_serf c.args.rules) c.args.config.now _ _ _ _ _ narrows.Stays _ _ _ _ c.deref.ensures.value
    c.in_ok-shorter.ensures.narrows c.in-Stays.is (le-leb c.steps.size 1 c.if-singles.true) whole input from (c.steps.invariant whole input from h)).reached

pub steps-preserved : goal.steps-preserved
steps-preserved g c = λ whole input from h.
    along_less (is_serf c.args.rules) c.args.config.now _ _ _ _ _ _ _
    (narrowed (is_serf c.args.rules) c.args.config.now _ _ _ _ _ narrows.Stays _ _ _ _ c.deref.ensures.value
    c.in_ok-shorter.ensures.narrows c.in-Stays.is refl whole input from (c.steps.invariant whole input from h))

pub returns-in-Ended : goal.returns-in-Ended
returns-in-Ended g c = λ whole input from h.
    narrowed (is_serf c.args.rules) c.args.config.now _ _ _ _ _ narrows.Ended _ _ _ _ c.deref.ensures.value
    c.in_ok-shorter.ensures.narrows c.in-Ended.is refl whole input from (c.steps.invariant whole input from h)
