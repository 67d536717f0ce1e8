use Rattle.std.proofs.Common.{◌∙◌, ap, sym}
use Rattle.range_recovery.specs.Gathered.{without_grains}
use Rattle.range_recovery.proofs.Entries.{without_grains-push}
use Rattle.grain_table.specs.Table.{TableValue}
use Rattle.range_recovery.proofs.gather.take_out.Goals as goal

pub loop-grain-preserved : goal.loop-grain-preserved
loop-grain-preserved c =
    ap (λ t. without_grains c.pop.new.self.items t) (ap (λ (v : TableValue). v.entries) c.remove.ensures)
    ∙ sym (without_grains-push c.pop.new.self.items c.in-Some.grain c.loop-grain.gathered.entries)
    ∙ ap (λ l. without_grains l c.loop-grain.gathered.entries) (sym c.in-Some.ensures.items) ∙ c.loop-grain.invariant
