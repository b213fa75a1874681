use Rattle.serf_wire.proofs.Names.{ap, codes, refl, subst, ◌∙◌, Finds, intent_layout, text_in, time_in, truth_in}
use Rattle.serf_wire.specs.declared.layout.Kind.TheVariants as kinds
use Rattle.serf_wire.specs.declared.layout.Layout.TheVariants as layouts
use Rattle.serf_wire.proofs.Finding.{shown}
use Rattle.serf_wire.proofs.intent.intent_of_fields.Goals as goal

pub returns-in-Join : goal.returns-in-Join
returns-in-Join c = λ ps given.
    let finds : Finds layouts.Join c.args.found.now ps = subst (λ t. Finds (intent_layout t) c.args.found.now ps) c.in-Join.is given in
    let at = shown layouts.Join c.args.found.now ps finds in
    rw (
      c.in-Join.is,
      c.time_or_zero.ensures ∙ ap time_in (at (codes "LTime") 0 kinds.Time _ refl c.at.ensures),
      c.text_or_empty.ensures ∙ ap text_in (at (codes "Node") 1 kinds.Text _ refl c.at-in-Join.ensures),
    ) refl

pub returns-in-Leave : goal.returns-in-Leave
returns-in-Leave c = λ ps given.
    let finds : Finds layouts.Leave c.args.found.now ps = subst (λ t. Finds (intent_layout t) c.args.found.now ps) c.in-Leave.is given in
    let at = shown layouts.Leave c.args.found.now ps finds in
    rw (
      c.in-Leave.is,
      c.time_or_zero-in-Leave.ensures ∙ ap time_in (at (codes "LTime") 0 kinds.Time _ refl c.at-in-Leave.ensures),
      c.text_or_empty-in-Leave.ensures ∙ ap text_in (at (codes "Node") 1 kinds.Text _ refl c.at-in-Leave-2.ensures),
      c.flag_or_false.ensures ∙ ap truth_in (at (codes "Prune") 2 kinds.Flag _ refl c.at-in-Leave-3.ensures),
    ) refl
