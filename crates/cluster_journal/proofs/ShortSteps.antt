-- A silo's own step that is kept short is the entry of its event and of what it told.
use Rattle.std.proofs.Common.{◌≡◌, ℕ, List, Ok, sym, ap, ◌∙◌}
use Rattle.silo_address.specs.Grain.{Grain, IsGrain, grain_text}
use Rattle.silo_address.specs.ReadGrain.{grain_at_slash, read_grain}
use Rattle.silo_address.proofs.GrainCases.{grain_at_slash_again, grain_only}

-- a grain's name is its own
pub named_again : (grain : Grain) → IsGrain grain → (name : List ℕ) → name ≡ grain_text grain → grain_at_slash name ≡ grain
named_again grain is name spelled = grain_at_slash_again name grain (record { text = spelled; cut = is.cut })

-- and is read as it
pub reads_named : (grain : Grain) → IsGrain grain → (name : List ℕ) → name ≡ grain_text grain → read_grain name ≡ Ok (grain_at_slash name)
reads_named grain is name spelled = grain_only name grain is spelled ∙ ap Ok (sym (named_again grain is name spelled))
