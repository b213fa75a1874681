use Rattle.serf_judge_json.proofs.Names.{None, Some, ap, append-nil, cond, sym, ◌++◌, [], ◌∷◌, ◌∙◌, ◌≡◌, is_same, on_ok_weaker, text_after, again_text, first_of}
use Rattle.serf_judge.specs.Identity.{handed_seen, key_identity}
use Rattle.serf_judge_json.specs.Repeats.{AreFirsts, repeat_text}
use Rattle.serf_judge_json.proofs.RepeatLaws.{first-new, first-stays}
use Rattle.serf_judge_json.proofs.repeats.write_if_again.Goals as goal

pub returns-in-Some : goal.returns-in-Some
returns-in-Some c = λ lines h.
    let line = handed_seen c.args.late in
    let out = c.args.out.now.items in
    let places = c.args.finder.now.places in
    let known : first_of lines line.1 ≡ Some c.in-Some.first = sym (c.in-Some.ensures ∙ c.get.ensures.value ∙ h c.args.late.key) in
    let stays : AreFirsts (lines ++ line ∷ []) c.args.firsts.now = λ q. h q ∙ first-stays lines line c.in-Some.first (key_identity q) known in
    let step : c.write_repeat.new.out.items ≡ out ++ repeat_text places c.args.kind line c.in-Some.first → AreFirsts (lines ++ line ∷ []) c.args.firsts.now × (c.write_repeat.new.out.items ≡ out ++ again_text places c.args.kind lines line) =
    λ e. (stays, e ∙ ap (λ o. out ++ text_after places c.args.kind line o) (sym known)) in
    on_ok_weaker c.write_repeat.result step c.write_repeat.ensures

pub returns-in-Ok : goal.returns-in-Ok
returns-in-Ok c = λ lines h.
    let line = handed_seen c.args.late in
    let unknown : first_of lines line.1 ≡ None = sym (c.in-None.ensures ∙ c.get.ensures.value ∙ h c.args.late.key) in (
      λ q. c.in-Ok.ensures.updates.0 q ∙ ap (cond (is_same line.1 (key_identity q)) (Some line.0)) (h q) ∙ first-new lines line (key_identity q) unknown,
      sym (ap (λ o. c.args.out.now.items ++ text_after c.args.finder.now.places c.args.kind line o) unknown ∙ append-nil c.args.out.now.items),
    )
