-- An activation: one life of a grain on a silo, told by the silo and by the silo's count of activations when it began.
-- An entry names a grain's activation; a directory is made of entries.
use Rattle.std.specs.Prelude.{◌==◌, ◌&&◌, Bool}
use Rattle.std.specs.Ordering.{nat_cmp, on, then_cmp}
use Rattle.std.specs.declared.cmp.Ordering.{Ordering}
use Rattle.silo_address.specs.declared.activation.ActivationId.{ActivationId}
use Rattle.silo_address.specs.declared.entry.Entry.{Entry}
use Rattle.silo_address.specs.Silo.{silo_cmp, silo_eq}
use Rattle.silo_address.specs.Grain.{grain_cmp, grain_eq}

-- activations by silo, then count
abbrev pub activation_cmp : ActivationId → ActivationId → Ordering
activation_cmp = then_cmp (on (λ a. a.silo) silo_cmp) (on (λ a. a.count) nat_cmp)

abbrev pub activation_eq : ActivationId → ActivationId → Bool
activation_eq a b = silo_eq a.silo b.silo && (a.count == b.count)

-- entries by grain, then activation
abbrev pub entry_cmp : Entry → Entry → Ordering
entry_cmp = then_cmp (on (λ e. e.grain) grain_cmp) (on (λ e. e.activation) activation_cmp)

abbrev pub entry_eq : Entry → Entry → Bool
entry_eq a b = grain_eq a.grain b.grain && activation_eq a.activation b.activation
