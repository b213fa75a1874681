use Rattle.serf_run_json.proofs.Names.{List, Option, [], ap, ℕ, ◌++◌, ◌∙◌, if◌then◌else◌, on_ok_weaker, Action, Line, Range, WorldState, actor_of, explanation_text, is_shown, results_text, settings_of}
use Rattle.serf_run_json.proofs.ObjectLaws.{explains-only, told-next, told-plain}
use Rattle.serf_run_json.proofs.teller.RunObjectsTurns.tell.Goals as goal

pub returns-then-not-self : goal.returns-then-not-self
returns-then-not-self c = λ options configs done lines front found has takes counted.
    let w : WorldState = c.args.world.now in
    let action : Action = c.args.action.now in
    let line : Line = c.args.line in
    let n : ℕ = c.args.number in
    let old : List ℕ = c.args.out.now.items in
    let a : List ℕ = c.write_front.new.out.items in
    let b : List ℕ = c.write_shown.new.out.items in
    let shown = c.shows-is_shown.ensures ∙ ap (λ (o : Option ℕ). is_shown c.args.self.now.range n o) c.actor.ensures ∙ ap (λ (r : Range). is_shown r n (actor_of action)) found.0 in
    let results = c.in_ok-write_shown.ensures ∙ ap (λ s. a ++ (if s then results_text (settings_of w) w.sent n action line else [])) shown in
    (found.0, found.1, told-plain options.0 options.1 configs done action w line n front old a b found.2 takes counted c.in_ok-write_front.ensures results)

pub returns : goal.returns
returns c = λ options configs done lines front found has takes counted.
    let w : WorldState = c.args.world.now in
    let action : Action = c.args.action.now in
    let line : Line = c.args.line in
    let n : ℕ = c.args.number in
    let old : List ℕ = c.args.out.now.items in
    let a : List ℕ = c.write_front.new.out.items in
    let b : List ℕ = c.write_shown.new.out.items in
    let new : List ℕ = c.write_explanation.new.out.items in
    let shown = c.shows-is_shown.ensures ∙ ap (λ (o : Option ℕ). is_shown c.args.self.now.range n o) c.actor.ensures ∙ ap (λ (r : Range). is_shown r n (actor_of action)) found.0 in
    let results = c.in_ok-write_shown.ensures ∙ ap (λ s. a ++ (if s then results_text (settings_of w) w.sent n action line else [])) shown in
    on_ok_weaker c.write_explanation.result
    (λ adds. (
      found.0,
      found.1,
      told-next options.0 options.1 configs done action w line n adds.explanation front old a b new found.2 takes counted
          (explains-only options.1 c.args.self.now.explains adds.explanation c.if-not-self.false found.1)
          c.in_ok-write_front.ensures results (adds.added ∙ ap (λ s. b ++ (if s then explanation_text adds.explanation else [])) shown),
    ))
    c.write_explanation.ensures
