-- How the fields of the Rust settings mean the rule's settings.
use Rattle.directory_rules.specs.declared.settings.Settings.TheInside.{Inside}
use Rattle.directory_rules.specs.Settings.{Settings}

-- the settings that the fields mean
abbrev pub settings_of : Inside → Settings
settings_of s = record {
  hashing = s.hashing;
  points = s.points;
  cache = s.cache;
  silos = s.silos;
  places = s.places;
  events = s.events;
  letters = s.letters;
  activations = s.activations;
  finds = s.finds;
  report_size = s.report_size;
  last_number = s.last_number;
}

-- and back
abbrev pub fields_of : Settings → Inside
fields_of s = record {
  hashing = s.hashing;
  points = s.points;
  cache = s.cache;
  silos = s.silos;
  places = s.places;
  events = s.events;
  letters = s.letters;
  activations = s.activations;
  finds = s.finds;
  report_size = s.report_size;
  last_number = s.last_number;
}
