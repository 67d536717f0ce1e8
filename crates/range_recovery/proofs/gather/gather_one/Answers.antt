use Rattle.std.proofs.Common.{◌++◌, ◌∷◌, [], cond, ◌∙◌, ap}
use Rattle.std.specs.Result.{is_ok}
use Rattle.directory_rules.specs.Table.{without_grain}
use Rattle.grain_table.specs.Table.{TableValue}
use Rattle.range_recovery.specs.Gathered.{without_grains}
use Rattle.range_recovery.proofs.Entries.{new_taken, old_stays, without_grains-push}
use Rattle.range_recovery.proofs.gather.gather_one.Goals as goal

pub returns-clause-noted : goal.returns-clause-noted
returns-clause-noted c =
    ap (λ l. without_grains l c.insert_new.new.self.entries)
    (c.push.ensures.items ∙ ap (λ r. cond (is_ok r) (c.args.new.now.items ++ c.args.entry.now.grain ∷ []) c.args.new.now.items)
    c.unwrap.ensures)
    ∙ without_grains-push c.args.new.now.items c.args.entry.now.grain c.insert_new.new.self.entries
    ∙ ap (λ t. without_grains c.args.new.now.items t)
    (ap (λ (v : TableValue). without_grain c.args.entry.now.grain v.entries) c.in_ok-is_new.ensures.put
    ∙ new_taken c.args.gathered.now.entries c.args.entry.now c.in_ok-is_new.is_new c.in_ok-is_new.ensures.is_new c.if-not-is_new.false)

pub returns-then-not-is_new-clause-noted : goal.returns-then-not-is_new-clause-noted
returns-then-not-is_new-clause-noted c =
    ap (λ t. without_grains c.args.new.now.items t)
    (ap (λ (v : TableValue). v.entries) c.in_ok-is_new.ensures.put
    ∙ old_stays c.args.gathered.now.entries c.args.entry.now c.in_ok-is_new.is_new c.in_ok-is_new.ensures.is_new c.if-not-is_new.true)
