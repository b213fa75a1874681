use Rattle.serf_world.proofs.Names.{List, None, [], arith, length, subst, sym, ℕ, ◌++◌, ◌<◌, ◌∙◌, ◌∷◌, ◌≡◌, ◌≤◌, Cluster, injects, run_of, AreRepresentable, BringsTold, Injected, Line, IsViewed, TakesStep, WorldState}
use Rattle.serf_world.proofs.DoneLaws.{done-next}
use Rattle.serf_world.proofs.TurnLaws.{IsWritableAct, owes-none, owes-turn}
use Rattle.serf_world.proofs.world.World.try_step.Goals as goal

-- bytes that no agent made were sent
sends : (c : Cluster) (w : WorldState) (bytes packet : List ℕ) (sent : List (List ℕ)) (line : Line) → IsViewed c w → AreRepresentable c → packet ≡ bytes → sent ≡ w.sent ++ packet ∷ []
    → line ≡ record { answer = Injected; sent = length w.sent ∷ []; events = []; handed = None } → TakesStep (injects c bytes) (record { nodes = w.nodes; sent = sent; has_failed = w.has_failed }) line
sends c w bytes packet sent line v representable same goes is =
    record { line_is = is ∙ (λ k. record { answer = Injected; sent = length (sym v.sent k) ∷ []; events = []; handed = None }); view = record { nodes = v.nodes; sent = (λ k. v.sent k ++ sym same k ∷ []) ∙ sym goes }; representable = representable }

pub returns-in_ok-line-in-Inject-clause-step : goal.returns-in_ok-line-in-Inject-clause-step
returns-in_ok-line-in-Inject-clause-step c = λ cl v representable.
    rw c.in-Inject.is (sends cl (record { nodes = c.self.inside.nodes.items; sent = c.self.inside.sent.items; has_failed = c.self.inside.has_failed }) c.in-Inject.bytes c.in_ok-packet-in-Inject.packet c.line_with_packet.new.sent.items c.in_ok-line-in-Inject.line
    (subst (IsViewed cl) (sym c.self.view_is) v) representable (c.in_ok-packet-in-Inject.ensures ∙ c.as_slice.ensures) c.in_ok-line-in-Inject.ensures.sent c.in_ok-line-in-Inject.ensures.line)

pub returns-in_ok-line-in-Inject-clause-done : goal.returns-in_ok-line-in-Inject-clause-done
returns-in_ok-line-in-Inject-clause-done c = λ configs actions lines h. done-next c.turns_shown.ensures c.run_promises.ensures.promises configs actions lines c.args.self.now _ c.args.action.now c.in_ok-line-in-Inject.line h c.read_numbers.ensures c.inspect_action.ensures (returns-in_ok-line-in-Inject-clause-step c (run_of configs actions).cluster h.view h.representable)

pub returns-then-number-len-clause-step : goal.returns-then-number-len-clause-step
returns-then-number-len-clause-step c = λ cl v representable.
    let past : length c.self.inside.nodes.items ≤ c.in-Of.agent = omega arith in
    rw c.in-Of.is (owes-none cl c.args.self.now c.in-Of.agent c.in-Of.act c.refused.result v representable
    (subst (λ (w : WorldState). length w.nodes ≤ c.in-Of.agent) c.self.view_is past) c.refused.ensures)

pub returns-then-number-len-clause-done : goal.returns-then-number-len-clause-done
returns-then-number-len-clause-done c = λ configs actions lines h. done-next c.turns_shown.ensures c.run_promises.ensures.promises configs actions lines c.args.self.now _ c.args.action.now c.refused.result h c.read_numbers.ensures c.inspect_action.ensures (returns-then-number-len-clause-step c (run_of configs actions).cluster h.view h.representable)

pub returns-in_ok-line-in-Of-clause-step : goal.returns-in_ok-line-in-Of-clause-step
returns-in_ok-line-in-Of-clause-step c = λ cl v representable.
    let told : IsWritableAct c.self.inside.sent.items c.in-Of.act = subst (λ (s : List (List ℕ)). IsWritableAct s c.in-Of.act) c.as_slice-in-Of.ensures.value (subst BringsTold c.in-Of.is c.inspect_action.ensures, c.inspect_given.ensures) in
    let within : c.in-Of.agent < length c.self.inside.nodes.items = omega arith in
    rw c.in-Of.is (owes-turn c.representable_agents.ensures.apply cl (record { nodes = c.self.inside.nodes.items; sent = c.self.inside.sent.items; has_failed = c.self.inside.has_failed }) c.take_turn.new.sent.items c.in-Of.agent c.in-Of.act
    c.index_mut.result.now c.take_turn.new.node c.in_ok-line-in-Of.line (subst (IsViewed cl) (sym c.self.view_is) v) representable told within c.index_mut.ensures.value c.in_ok-line-in-Of.ensures.turn)

pub returns-in_ok-line-in-Of-clause-done : goal.returns-in_ok-line-in-Of-clause-done
returns-in_ok-line-in-Of-clause-done c = λ configs actions lines h. done-next c.turns_shown.ensures c.run_promises.ensures.promises configs actions lines c.args.self.now _ c.args.action.now c.in_ok-line-in-Of.line h c.read_numbers.ensures c.inspect_action.ensures (returns-in_ok-line-in-Of-clause-step c (run_of configs actions).cluster h.view h.representable)
