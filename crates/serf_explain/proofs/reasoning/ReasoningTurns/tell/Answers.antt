use Rattle.serf_explain.proofs.Names.{Bool, List, Option, [], ap, inr, subst, sym, ℕ, ◌++◌, ◌+◌, ◌∙◌, ◌∷◌, ◌≡◌, flat_map, Run, run_of, SeenWasHandedOrTailed, actor_of, Action, Line, because_line, AddsTurn, TellsAll, clusters_before, KnowsSeen, Record, records_in, TellsText, is_shown, Range}
use Rattle.serf_explain.specs.Reasoned.{lines_of}
use Rattle.serf_explain.proofs.KnownLaws.{knows-seen}
use Rattle.serf_explain.proofs.TellLaws.{clusters-length, hold-next, next-number, on-ok-both, run-push, told-after, told-next, turn-following}
use Rattle.serf_explain.proofs.reasoning.ReasoningTurns.tell.Goals as goal

pub returns : goal.returns
returns c = λ range configs done lines front found has takes counted.
    let r : Run = run_of configs done in
    let action : Action = c.args.action.now in
    let line : Line = c.args.line in
    let number : ℕ = c.args.number in
    let new = c.args.world.now in
    let old : List ℕ = c.args.out.now.items in
    let told : List ℕ = c.write_turn.new.out.items in
    let h = found.0.1 in
    let hold = found.0.2 in
    let before = clusters_before configs done in
    let number_is = counted ∙ ap (λ n. n + 1) (sym (clusters-length configs done)) in
    let count = next-number configs done number counted in
    let raised : Option ℕ = c.args.self.now.lines.raised in
    let tells : TellsText number (lines_of r) (before ++ r.cluster ∷ []) r.cluster action raised c.args.self.now.lines.text.items =
    subst (λ n. TellsText n (lines_of r) (before ++ r.cluster ∷ []) r.cluster action raised c.args.self.now.lines.text.items) (sym counted) found.1 in
    let carried : List (List ℕ) = tells.carried in
    let lines_are : c.deref.result.now ≡ flat_map (because_line number) carried = c.deref.ensures.value ∙ tells.text_is in
    let history = c.args.self.now.history in
    let past : List Record = records_in history.deliveries.outs.items in
    let recorded : List Record = records_in c.record_turn.new.self.deliveries.outs.items in
    let is_told : Bool = is_shown range number (actor_of action) in
    let shown = c.shows.ensures ∙ ap (λ o. is_shown c.args.self.now.range number o) c.actor.ensures ∙ ap (λ (fired_queries : Range). is_shown fired_queries number (actor_of action)) found.0.0 in
    let adds : AddsTurn (TellsAll is_told raised carried history number new action line) is_told new.sent number line old told =
    subst (λ b. AddsTurn (TellsAll b raised carried history number new action line) b new.sent number line old told) shown (c.in_ok-write_turn.ensures carried lines_are) in
    let following = turn-following (TellsAll is_told raised carried history number new action line) is_told new.sent number line front old told adds in
    let known : KnowsSeen configs past new.sent action line =
    knows-seen configs r action new.sent line past
    (subst (λ (q : Run). SeenWasHandedOrTailed configs q.turns) (run-push configs done action) (c.run_promises.ensures.held configs (done ++ action ∷ []) has.settings (inr has.told)).1)
    (c.lines_stay.ensures.sent r.cluster action) takes.view.sent takes.line_is h.records_are in
    on-ok-both c.record_turn.result
    (λ is holds. (
      found.0.0,
      told-next range configs done action recorded (front ++ told)
          (told-after configs range r before action new line raised carried history recorded (front ++ old) (front ++ told) number
          (c.lines_stay.ensures.sent r.cluster action) (λ more. c.lines_stay.ensures.lines r.cluster action number more) h hold count tells.tells takes known following is),
      hold-next configs done action c.record_turn.new.self.marks holds,
    ))
    c.record_turn.ensures.records (c.record_turn.ensures.marks before r.cluster hold takes.view number_is)
