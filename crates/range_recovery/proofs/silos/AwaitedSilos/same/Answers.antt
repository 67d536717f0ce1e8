use Rattle.std.proofs.Common.{◌∙◌, ap, sym}
use Rattle.range_recovery.proofs.Told.{told, same_rows}
use Rattle.range_recovery.proofs.silos.AwaitedSilos.same.Goals as goal

pub returns : goal.returns
returns c =
    let same = rw (c.deref.ensures.value, c.deref-2.ensures.value) at c.same_silos.ensures in (
      λ t. sym c.self.view_is ∙ ap told (same.0 t) ∙ c.other.view_is,
      λ e. same.1 (same_rows c.self.inside.silos.items c.other.inside.silos.items c.self.invariant.by_address c.other.invariant.by_address
          (c.self.view_is ∙ e ∙ sym c.other.view_is)),
    )
