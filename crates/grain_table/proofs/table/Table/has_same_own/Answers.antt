use Rattle.std.proofs.Common.{◌≡◌, sym, ◌∙◌, ap, subst}
use Rattle.hash_ring.specs.declared.Hashing.{Hashing}
use Rattle.grain_table.specs.Hashed.{AreHashed, by_grain}
use Rattle.grain_table.specs.Table.{TableValue}
use Rattle.grain_table.proofs.KeysSame.{kept_alike}
use Rattle.grain_table.proofs.table.Table.has_same_own.Goals as goal

pub returns : goal.returns
returns c =
    let one = ap (λ (v : TableValue). v.entries) c.self.view_is in
    let other = ap (λ (v : TableValue). v.entries) c.other.view_is in
    let alike : c.other.inside.hashing ≡ c.self.inside.hashing =
    ap (λ (v : TableValue). v.hashing) c.other.view_is ∙ sym c.requires ∙ ap (λ (v : TableValue). v.hashing) (sym c.self.view_is) in (
      λ t. sym one ∙ ap by_grain (c.same.ensures.0 t) ∙ other,
      λ same.
          c.same.ensures.1
          (kept_alike c.self.inside.hashing c.self.inside.map c.other.inside.map c.self.invariant.are
          (subst (λ (h : Hashing). AreHashed h c.other.inside.map) alike c.other.invariant.are) (one ∙ same ∙ sym other)),
    )
