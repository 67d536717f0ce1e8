-- How a silo's own step that is kept short is an entry of the journal.
use Rattle.std.specs.Prelude.{◌≡◌, Ok}
use Rattle.std.specs.Box.{boxed_str_bytes}
use Rattle.silo_address.specs.Grain.{Grain}
use Rattle.silo_address.specs.ReadGrain.{grain_at_slash, read_grain}
use Rattle.directory_rules.specs.Event.{Do}
use Rattle.directory_rules.specs.declared.outcome.Happening.TheVariants.{Did}
use Rattle.cluster_journal.specs.Entry.{EntryValue}
use Rattle.cluster_journal.specs.Stepped.{effect_by, sent_by, step_by}
use Rattle.cluster_journal.specs.declared.stepped.Stepped.TheInside.{Inside}

-- the grain of the name
abbrev pub grain_in : Inside → Grain
grain_in stepped = grain_at_slash (boxed_str_bytes stepped.name)

-- the name is read as its grain
abbrev pub IsNamed : Inside → Type 0
IsNamed stepped = read_grain (boxed_str_bytes stepped.name) ≡ Ok (grain_in stepped)

-- the step, and what it told
abbrev pub entry_in : Inside → EntryValue
entry_in stepped = record {
  event = Do stepped.silo (step_by stepped.asked (grain_in stepped));
  outcome = record { happening = Did stepped.silo (effect_by stepped.did (grain_in stepped)); sent = sent_by stepped.letter };
}
