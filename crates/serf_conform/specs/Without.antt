-- A schedule without the calls that an agent doesn't have, and without the calls that depend on them.
use Rattle.std.specs.Prelude.{ℕ, ◌==◌, ◌+◌, ◌||◌, ◌++◌, Bool, false, not, if◌then◌else◌, List, [], ◌∷◌, length, Option, Some, None}
use Rattle.std.specs.List.{flat_map}
use Rattle.serf_model.specs.declared.action.Act.{Act}
use Rattle.serf_model.specs.declared.action.Act.TheVariants as acts
use Rattle.serf_model.specs.declared.action.Action.{Action}
use Rattle.serf_model.specs.declared.action.Action.TheVariants as actions
use Rattle.serf_model.specs.Trace.{Turn}
use Rattle.serf_schedule.specs.Line.{Parsed}
use Rattle.serf_conform.specs.declared.missing.MissingCalls.{MissingCalls}
use Rattle.serf_conform.specs.declared.missing.OwnCall.{OwnCall}
use Rattle.serf_conform.specs.Session.{given_of}
use Rattle.serf_conform.specs.Case.{turns_in}
use Rattle.serf_conform.specs.AgentCalls.{injections_of, packets_in, placed}

abbrev pub is_missing : MissingCalls → Act → Bool
is_missing m (acts.Fire name payload coalesce) = m.fire
is_missing m (acts.Deliver packet now) = m.deliver
is_missing m acts.State = m.state
is_missing m (acts.Merge packet join) = m.merge
is_missing m (acts.Query q) = m.query
is_missing m (acts.Respond handed now payload) = m.respond
is_missing m (acts.Restart tail) = m.restart
is_missing m (acts.Break call count) = m.breaks
is_missing m (acts.Close now) = m.close
is_missing m acts.Save = m.save
is_missing m acts.Compact = m.compact

-- The first byte of a packet is the type of its message. A query (4) depends on `respond`, which answers it. An ack and
-- a response (5) depend on `query`.
abbrev pub packet_depends : MissingCalls → List ℕ → Bool
packet_depends m [] = false
packet_depends m (kind ∷ body) = if kind == 4 then m.respond else if kind == 5 then m.query else false

-- A call depends on what its packet depends on. `close` carries none, and depends on `query`.
abbrev pub depends : MissingCalls → Act → List ℕ → Bool
depends m (acts.Close now) given = m.query
depends m _ given = packet_depends m given

abbrev pub is_remaining : MissingCalls → Act → List ℕ → Bool
is_remaining m act given = not (is_missing m act || depends m act given)

-- the call of an act that has this packet, if it is left
abbrev pub left_act : MissingCalls → ℕ → Act → Option (List ℕ) → List OwnCall
left_act m agent act None = []
left_act m agent act (Some given) = if is_remaining m act given then record { agent = agent; call = record { act = act; given = given } } ∷ [] else []

abbrev pub left_of : MissingCalls → Action → Option (List ℕ) → List OwnCall
left_of m (actions.Inject bytes) given = []
left_of m (actions.Of agent act) given = left_act m agent act given

-- the calls that are left of all agents, each with the bytes that its packet has in this run
abbrev pub left_in : MissingCalls → List Turn → List OwnCall
left_in m turns = flat_map (λ t. left_of m t.action (given_of t.action t.given)) turns

-- these calls, if their packets are numbered from n on
abbrev pub own_from : ℕ → List OwnCall → List Action
own_from n [] = []
own_from n (c ∷ cs) = actions.Of c.agent (placed n c.call.act) ∷ own_from (n + length (packets_in c.call.act c.call.given)) cs

abbrev pub actions_of : List OwnCall → List Action
actions_of calls = flat_map (λ c. injections_of c.call) calls ++ own_from 0 calls

-- The schedule has the same agents. It injects the packets of the calls that are left, and then makes these calls.
abbrev pub without : MissingCalls → Parsed → Parsed
without m p = record { configs = p.configs; actions = actions_of (left_in m (turns_in p)) }

-- If nothing is left out, the schedule is unchanged.
abbrev pub without_any : Option MissingCalls → Parsed → Parsed
without_any None p = p
without_any (Some m) p = without m p
