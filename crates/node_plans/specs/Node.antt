-- What every node of the code keeps.
use Rattle.std.specs.Prelude.{◌≡◌, ◌≤◌, ℕ, true, List, Some, All}
use Rattle.std.specs.Ordering.{nat_cmp}
use Rattle.std.specs.Map.{lookup}
use Rattle.std.specs.BTreeMap.{is_at}
use Rattle.directory_rules.specs.declared.PieceState.TheVariants.{Recovering}
use Rattle.directory_rules.specs.State.{Piece, Recovery, Node}
use Rattle.directory_rules.specs.Table.{rise_by_grain}

-- there is a recovery under the start, of just that piece's range
pub record HasRecovery (recoveries : List (ℕ × Recovery)) (start : ℕ) (piece : Piece) : Type 0 where
  pub recovery : Recovery
  pub there : lookup (is_at (nat_cmp start)) recoveries ≡ Some recovery
  pub its_range : recovery.range ≡ piece.range

-- each piece that recovers has its recovery
abbrev pub HaveRecoveries : List (ℕ × Piece) → List (ℕ × Recovery) → Type 0
HaveRecoveries pieces recoveries =
    (start : ℕ) (piece : Piece) → lookup (is_at (nat_cmp start)) pieces ≡ Some piece → piece.state ≡ Recovering → HasRecovery recoveries start piece

-- what a node keeps: its cache is as large as the settings say, each piece that recovers has its recovery, what is gathered
-- stands in the order of the grains, and each snapshot on the shelf was sealed at a version that the silo has seen
pub record IsNode (node : Node) : Type 0 where
  pub cached : node.cache.capacity ≡ node.settings.cache
  pub recovers : HaveRecoveries node.holding.pieces node.recoveries
  pub rising : All (λ e. rise_by_grain e.1.entries ≡ true) node.gatherings
  pub shelved : All (λ s. s.version ≤ node.view.version) node.shelf
