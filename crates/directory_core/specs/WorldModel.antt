-- How the fields of the code's world are the rule's world.
use Rattle.directory_rules.specs.State.{World}
use Rattle.directory_core.specs.declared.world.World.TheInside.{Inside}

-- the rule's world
abbrev pub world_of : Inside → World
world_of w = record {
  settings = w.settings;
  accepted = w.accepted;
  views = w.membership.views;
  places = w.membership.places;
  nodes = w.nodes.entries;
  mail = w.mail.letters;
  sent = w.mail.sent;
}
