-- What one agent does by itself is the same as what it does in a cluster.
use Rattle.serf_model.proofs.Names.{List, None, Option, Some, [], ap, refl, subst, sym, ℕ, ◌++◌, ◌∙◌, ◌∷◌, ◌≡◌, fold_push, AllZip, option_to_list, slice_get, Config, AgentCall, Alone, IsAlone, Shows, alone, call_by, calls_in, calls_on, of_one_packet, Applied, IdealNode, Run, after, applied, apply, delivers, first_node, merges_given, run_of, start, with_handed, Turn, given_by, turns_by, Act, Action}
use Rattle.serf_model.specs.declared.action.Act.TheVariants as acts
use Rattle.serf_model.proofs.PerAgent.{Each, each-start, each-step}
use Rattle.serf_model.proofs.TurnLaws.{fold_keeps, flat_map-push}

-- two lists that are related element by element stay related after one more pair
zip-push : {X Y : Type 0} (R : X → Y → Type 0) (xs : List X) (ys : List Y) (x : X) (y : Y) → AllZip R xs ys → R x y → AllZip R (xs ++ x ∷ []) (ys ++ y ∷ [])
zip-push R [] [] x y all r = (r, tt)
zip-push R [] (b ∷ ys) x y all r = absurd all
zip-push R (a ∷ xs) [] x y all r = absurd all
zip-push R (a ∷ xs) (b ∷ ys) x y all r = (all.0, zip-push R xs ys x y all.1 r)

-- the list of an optional element has this element at place 0
only-one : {X : Type 0} (r : Option X) → slice_get (option_to_list r) 0 ≡ r
only-one None = refl
only-one (Some x) = refl

-- an agent does the same if the packet that it is given is the only one that was sent
same-apply : (m : IdealNode) (sent : List (List ℕ)) (act : Act) → apply m sent act ≡ apply m (option_to_list (given_by sent act)) (of_one_packet act)
same-apply m sent (acts.Deliver packet now) = ap (delivers m now) (sym (only-one (slice_get sent packet)))
same-apply m sent (acts.Merge packet join) = ap (merges_given m join) (sym (only-one (slice_get sent packet)))
same-apply m sent _ = refl

-- the agent with this number, if it has these settings, is in the state in which the same calls leave an agent that is
-- alone
abbrev AloneAt : List Config → ℕ → List Turn → IdealNode → Type 0
AloneAt configs a ts m = (config : Config) → slice_get configs a ≡ Some config → IsAlone config a ts m

one-more : (config : Config) (ts : List Turn) (t : Turn) (call : AgentCall) → call_by t.action t.given ≡ call ∷ [] → alone config (calls_in (ts ++ t ∷ [])) ≡ calls_on (alone config (calls_in ts)) call
one-more config ts t call is =
    ap (alone config) (flat_map-push (λ (t : Turn). call_by t.action t.given) ts t ∙ ap (λ l. calls_in ts ++ l) is) ∙ fold_push calls_on (record { node = first_node config; came = [] }) (calls_in ts) call

alone-more : (config : Config) (a : ℕ) (ts : List Turn) (t : Turn) (call : AgentCall) (m : IdealNode) (o : Applied) → IsAlone config a ts m → call_by t.action t.given ≡ call ∷ []
    → apply m (option_to_list call.given) (of_one_packet call.act) ≡ o → Shows a t o → IsAlone config a (ts ++ t ∷ []) (with_handed o.done.handed o.node)
alone-more config a ts t call m o h calls is shows =
    let before : Alone = alone config (calls_in ts) in
    let came : apply before.node (option_to_list call.given) (of_one_packet call.act) ≡ o = ap (λ (n : IdealNode). apply n (option_to_list call.given) (of_one_packet call.act)) (sym h.node) ∙ is in
    record {
      node = ap (λ (x : Applied). with_handed x.done.handed x.node) (sym came) ∙ ap (λ (s : Alone). s.node) (sym (one-more config ts t call calls));
      shown = subst (λ (l : List Applied). AllZip (Shows a) (ts ++ t ∷ []) l) (ap (λ (x : Applied). before.came ++ x ∷ []) (sym came) ∙ ap (λ (s : Alone). s.came) (sym (one-more config ts t call calls)))
          (zip-push (Shows a) ts before.came t o h.shown shows);
    }

alone-step : (configs : List Config) (r : Run) (action : Action) → Each (AloneAt configs) r.cluster r.turns → Each (AloneAt configs) (after r action).cluster (after r action).turns
alone-step configs r action all =
    each-step (AloneAt configs) r action all
    (λ b act m of at h config settings. alone-more config b (turns_by b r.turns) (applied r.cluster b act (apply m r.cluster.sent act)).turn (record { act = act; given = given_by r.cluster.sent act }) m (apply m r.cluster.sent act) (h config settings) refl
    (sym (same-apply m r.cluster.sent act)) (record { answer = refl; packets = refl; events = refl; handed = refl }))

alone-start : (configs : List Config) → Each (AloneAt configs) (start configs).cluster []
alone-start configs =
    each-start (AloneAt configs) configs (λ a config is other settings. (let same : config ≡ other = (let both : Some config ≡ Some other = sym is ∙ settings in cc both) in record { node = ap first_node same; shown = tt }))

pub alone-run : (configs : List Config) (actions : List Action) (a : ℕ) (config : Config) (m : IdealNode) → slice_get configs a ≡ Some config → slice_get (run_of configs actions).cluster.nodes a ≡ Some m
    → IsAlone config a (turns_by a (run_of configs actions).turns) m
alone-run configs actions a config m settings at =
    fold_keeps (λ (r : Run). Each (AloneAt configs) r.cluster r.turns) after (start configs) actions (alone-start configs) (alone-step configs) a m at config settings
