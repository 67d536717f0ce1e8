-- Points in order, merged with others.
use Rattle.std.specs.Prelude.{◌≡◌, List, ◌∷◌, ◌++◌, All}
use Rattle.std.specs.BTreeSet.{insert_key}
use Rattle.std.specs.declared.cmp.Ordering.TheVariants.{Less}
use Rattle.hash_ring.specs.declared.point.Point.{Point}
use Rattle.hash_ring.specs.Point.{point_cmp}

-- the points, with one more at its place: those before it, and those after it
pub record IsPutBetween (points : List Point) (point : Point) (before after : List Point) : Type 0 where
  pub lower : All (λ p. point_cmp p point ≡ Less) before
  pub put : before ++ point ∷ after ≡ insert_key point_cmp points point
