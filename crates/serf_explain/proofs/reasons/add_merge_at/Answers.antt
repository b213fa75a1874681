use Rattle.serf_explain.proofs.Names.{List, None, OnOk, Some, [], ap, length, subst, sym, ℕ, ◌++◌, ◌+◌, ◌∙◌, ◌∷◌, ◌≡◌, length-map, map-append, on_ok_weaker, slice_get, decoded, view_of, Known, AddsMerge, events_min, number_in, numbers_in}
use Rattle.serf_explain.proofs.CarriedLaws.{tells-none}
use Rattle.serf_explain.proofs.MergeLaws.{agent-is, agent-sound, node-of, tells-merge}
use Rattle.serf_explain.proofs.reasons.add_merge_at.Goals as goal

pub returns-in-Some-packet_at : goal.returns-in-Some-packet_at
returns-in-Some-packet_at c = λ earlier before d view rep hold records count lines empty.
    let node = node-of d c.args.world.now c.args.agent c.in-Some.at.now.concrete view (sym c.in-Some.ensures) in
    let sent : slice_get d.sent c.args.packet ≡ Some c.in-Some-packet_at.bytes.now = sym (c.in-Some-packet_at.ensures ∙ ap (λ (s : List (List ℕ)). slice_get s c.args.packet) (c.sent.ensures ∙ sym view.sent)) in
    let sound = agent-sound d c.args.agent node.0 rep node.1 in
    let new = c.add_merge.new.lines.text.items in
    let raised = c.add_merge.new.lines.raised in
    let many = count ∙ ap (λ n. n + 1) (sym (length-map before (number_in events_min c.args.agent))) in
    let known : List ℕ → Known = λ ns. record { agent = c.args.agent; before = ns; lines = earlier; entered = length node.0.agent.events.history } in
    on_ok_weaker c.add_merge.result (tells-merge c.args.number earlier (before ++ d ∷ []) d c.args.agent c.args.packet c.args.join node.0 raised c.in-Some-packet_at.bytes.now new node.1 sent)
    (subst (λ (ns : List ℕ). OnOk c.add_merge.result (AddsMerge (known ns) c.args.number node.0.agent c.args.join (decoded c.in-Some-packet_at.bytes.now) raised [] new)) (sym (map-append (number_in events_min c.args.agent) before (d ∷ [])))
    (subst (λ (old : List ℕ). OnOk c.add_merge.result (AddsMerge (known (numbers_in events_min c.args.agent before ++ number_in events_min c.args.agent d ∷ [])) c.args.number node.0.agent c.args.join (decoded c.in-Some-packet_at.bytes.now) raised old new)) empty
    (c.add_merge.ensures (numbers_in events_min c.args.agent before) (number_in events_min c.args.agent d) node.0.agent earlier sound node.2 (hold c.args.agent).event_minimum records many lines)))

pub returns-in-None-packet_at : goal.returns-in-None-packet_at
returns-in-None-packet_at c = λ earlier before d view rep hold records count lines empty.
    tells-none c.args.number earlier (before ++ d ∷ []) d _ c.args.lines.now.raised c.args.lines.now.text.items empty
    (λ m bytes p at sent spells.
    let given : None ≡ Some bytes = c.in-None-packet_at.ensures ∙ ap (λ (s : List (List ℕ)). slice_get s c.args.packet) (c.sent.ensures ∙ sym view.sent) ∙ sent in
    absurd (cc))

pub returns-in-None : goal.returns-in-None
returns-in-None c = λ earlier before d view rep hold records count lines empty.
    tells-none c.args.number earlier (before ++ d ∷ []) d _ c.args.lines.now.raised c.args.lines.now.text.items empty
    (λ m bytes p at sent spells.
    let is : None ≡ Some (view_of m.agent) = c.in-None.ensures ∙ agent-is d c.args.world.now c.args.agent m view at in
    absurd (cc))
