use Rattle.std.proofs.Common.{◌-◌, List, length, slice_get, ◌∙◌, ap, sym}
use Rattle.silo_address.specs.declared.Entry.{Entry}
use Rattle.directory_rules.specs.State.{Report}
use Rattle.directory_rules.specs.Standing.{last_grain}
use Rattle.range_recovery.proofs.LastGrains.{last_is}
use Rattle.range_recovery.proofs.report.Report.last_grain.Goals as goal

pub returns-in-Some : goal.returns-in-Some
returns-in-Some c =
    sym (last_is c.self.inside.after c.self.inside.entries.items c.in-Some.entry.now
    (sym (c.in-Some.ensures.value ∙ ap (λ (l : List Entry). slice_get l (length l - 1)) c.deref.ensures.value)))
    ∙ ap (λ (v : Report). last_grain v.after v.entries) c.self.view_is
