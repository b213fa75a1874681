-- How the code represents the drawing of a run: private to the crate.
use Rattle.std.specs.Prelude.{◌≡◌, ℕ, List}
use Rattle.serf_agent.specs.declared.config.Config.{Config}
use Rattle.serf_model.specs.declared.action.Action.{Action}
use Rattle.serf_model.specs.Cluster.{Cluster, run_of}
use Rattle.serf_model.specs.Trace.{actor_of, packet_given}
use Rattle.serf_draw.specs.declared.options.DrawOptions.{DrawOptions}
use Rattle.serf_draw.specs.declared.picture.Packet.{Packet}
use Rattle.serf_draw.specs.declared.rows.Found.{Found}
use Rattle.serf_draw.specs.declared.rows.Rows.{Rows}
use Rattle.serf_draw.specs.DrawOptions.{names}
use Rattle.serf_draw.specs.Drawing.{IsDrawn, arrow_of, clock_in, drawing_of}
use Rattle.serf_draw.specs.Label.{action_words}
use Rattle.serf_draw.specs.Merges.{carried_times}

-- the selected actions of these are drawn
abbrev pub draws : DrawOptions → Rows → List Config → List Action → List ℕ → Type 0
draws options d configs actions text = (d.options.now ≡ options) × IsDrawn (drawing_of options configs actions) d.packets.items d.rows.items

-- what the row of an action needs from the cluster before the action, and from the packets that were sent before it
pub record IsFound (options : DrawOptions) (c : Cluster) (packets : List Packet) (action : Action) (found : Found) : Type 0 where
  pub words : found.words.items ≡ action_words action (packet_given c.sent action)
  pub named : found.is_named ≡ names options.event action (packet_given c.sent action)
  pub clock : found.clock ≡ clock_in c (actor_of action)
  pub times : found.times.items ≡ carried_times action (packet_given c.sent action)
  pub arrow : found.arrow ≡ arrow_of packets action

abbrev pub found_by : DrawOptions → Rows → Found → List Config → List Action → Action → List ℕ → Type 0
found_by options d found configs actions action text = draws options d configs actions text × IsFound options (run_of configs actions).cluster d.packets.items action found
