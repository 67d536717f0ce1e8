-- A command, by its name.
use Rattle.std.proofs.Common.{◌≡◌, refl, ℕ, ◌++◌, false, List}
use Rattle.std.specs.Prelude.{codes, bytes_eq}
use Rattle.std.specs.Map.{lookup}
use Rattle.hash_ring.specs.declared.hashing.Hashing.{Hashing}
use Rattle.process_rules.specs.ReadLine.{commands, step_commands}
use Rattle.process_lines.specs.Known.{other_commands}

-- one that is no join, no view and no letter is among the others, or a step
pub among_others : (hashing : Hashing) (name : List ℕ) → bytes_eq name (codes "joined") ≡ false → bytes_eq name (codes "view") ≡ false
    → bytes_eq name (codes "letter") ≡ false → lookup (bytes_eq name) (commands hashing) ≡ lookup (bytes_eq name)
    (other_commands ++ step_commands)
among_others hashing name no_join no_view no_letter = rw (no_join, no_view, no_letter) refl
