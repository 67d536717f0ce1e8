use Rattle.std.specs.Map.{lookup}
use Rattle.std.proofs.lemmas.Bool.Decides.{Decides-like}
use Rattle.silo_address.specs.Grain.{grain_eq}
use Rattle.host_activations.proofs.SameHeld.{Decides-kept, Decides-option}
use Rattle.host_activations.proofs.activations.same.same_map.Goals as goal

pub returns : goal.returns
returns c =
    Decides-like c.same.result
    (λ agree grain. (Decides-option _ Decides-kept (lookup (grain_eq grain) c.args.one.now) (lookup (grain_eq grain) c.args.other.now)).0
    (agree grain))
    (λ same grain. (Decides-option _ Decides-kept (lookup (grain_eq grain) c.args.one.now) (lookup (grain_eq grain) c.args.other.now)).1
    (same grain))
    c.same.ensures
