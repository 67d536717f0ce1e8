-- How a `GrainId` keeps a grain: its text at the front of an array, zeros behind it, and where the kind and the text end.
use Rattle.std.specs.Prelude.{◌≡◌, ◌+◌, ◌-◌, ◌++◌, length, take, drop, replicate}
use Rattle.silo_address.specs.declared.grain.GrainId.TheInside.{Inside}
use Rattle.silo_address.specs.Grain.{Grain, IsGrain, grain_text}

abbrev pub grain_in : Inside → Grain
grain_in fields = record { kind = take fields.kind_len fields.text; key = drop (fields.kind_len + 1) (take fields.text_len fields.text) }

abbrev pub fields_of : Grain → Inside
fields_of grain = record {
  kind_len = length grain.kind;
  text_len = length (grain_text grain);
  text = grain_text grain ++ replicate (193 - length (grain_text grain)) 0;
}

-- the fields are just those of a grain
pub record HoldsGrain (fields : Inside) : Type 0 where
  pub is_grain : IsGrain (grain_in fields)
  pub exact : fields_of (grain_in fields) ≡ fields
