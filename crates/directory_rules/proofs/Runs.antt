-- A run of one event.
use Rattle.std.proofs.Common.{◌≡◌, ap, ℕ, [], ◌∷◌}
use Rattle.std.specs.Prelude.{Ok, Err}
use Rattle.directory_rules.specs.Event.{Event}
use Rattle.directory_rules.specs.State.{World, Accepted}
use Rattle.directory_rules.specs.Happens.{happens}
use Rattle.directory_rules.specs.Run.{run, world_after}

pub refused_run : (world : World) (event : Event) (number : ℕ) → happens world event ≡ Err number → (run world (event ∷ [])).world ≡ world
unfolding run
refused_run world event number refused = ap (λ r. world_after r world) refused

pub accepted_run : (world : World) (event : Event) (accepted : Accepted) → happens world event ≡ Ok accepted
    → (run world (event ∷ [])).world ≡ accepted.world
unfolding run
accepted_run world event accepted is = ap (λ r. world_after r world) is
