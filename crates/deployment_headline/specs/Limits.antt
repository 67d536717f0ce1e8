-- The limits on events and letters are the world's. A deployment has none, though its settings name them.
use Rattle.std.specs.Prelude.{ℕ, map}
use Rattle.directory_rules.specs.Settings.{Settings}
use Rattle.directory_rules.specs.State.{Node}
use Rattle.silo_rules.specs.SiloValue.{SiloValue}
use Rattle.deployment_headline.specs.Deployment.{Deployment}

-- the settings, but for so many events and letters
abbrev pub with_room : (events letters : ℕ) → Settings → Settings
with_room events letters settings = record settings { events = events; letters = letters }

-- a node, and a process, by such settings
abbrev pub node_with_room : (events letters : ℕ) → Node → Node
node_with_room events letters node = record node { settings = with_room events letters node.settings }

abbrev pub process_with_room : (events letters : ℕ) → SiloValue → SiloValue
process_with_room events letters s = record s { node = node_with_room events letters s.node }

-- so is each process of a deployment
abbrev pub deployment_with_room : (events letters : ℕ) → Deployment → Deployment
deployment_with_room events letters d = record d {
  settings = with_room events letters d.settings;
  processes = map (λ e. (e.0, process_with_room events letters e.1)) d.processes;
}
