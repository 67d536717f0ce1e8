use Rattle.std.proofs.Common.{◌≡◌, ◌∙◌, ap, sym, subst, false, true}
use Rattle.grain_table.specs.Table.{TableValue}
use Rattle.grain_table.proofs.Same.{HasAll, has_own, same_from}
use Rattle.grain_table.proofs.table.Table.has_same_found.Goals as goal

pub returns-then-has_all : goal.returns-then-has_all
returns-then-has_all c =
    let there = subst (λ (v : TableValue). HasAll v.entries c.self.inside.map) (sym c.other.view_is) (c.has_all.ensures.0 c.if-has_all.true) in (
      λ t.
          ap (λ (v : TableValue). v.entries) (sym c.self.view_is)
          ∙ same_from c.self.inside.map c.other.inside.map there
          (subst (λ (v : TableValue). HasAll v.entries c.other.inside.map) (sym c.self.view_is) (c.has_all-then-has_all.ensures.0 t))
          ∙ ap (λ (v : TableValue). v.entries) c.other.view_is,
      λ same.
          c.has_all-then-has_all.ensures.1
          (subst (λ table. HasAll table c.other.inside.map) (ap (λ (v : TableValue). v.entries) c.other.view_is ∙ sym same)
          (has_own c.other.inside.hashing c.other.inside.map c.other.invariant.are)),
    )

pub returns-else-has_all : goal.returns-else-has_all
returns-else-has_all c = (
  λ t. let no : false ≡ true = sym c.if-has_all.false ∙ t in cc,
  λ same.
      c.has_all.ensures.1
      (subst (λ table. HasAll table c.self.inside.map) (ap (λ (v : TableValue). v.entries) c.self.view_is ∙ same)
      (has_own c.self.inside.hashing c.self.inside.map c.self.invariant.are)),
)
