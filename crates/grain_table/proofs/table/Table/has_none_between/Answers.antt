use Rattle.std.proofs.Common.{◌∙◌, ap, sym}
use Rattle.std.specs.Prelude.{not}
use Rattle.std.specs.List.{list_all}
use Rattle.hash_ring.specs.Hash.{hash_grain}
use Rattle.directory_rules.specs.Table.{entries_of}
use Rattle.grain_table.specs.Stretch.{is_between}
use Rattle.grain_table.specs.Table.{TableValue}
use Rattle.grain_table.proofs.Outside.{each_by_grain, none_in_nothing}
use Rattle.grain_table.proofs.table.Table.has_none_between.Goals as goal

pub returns-then-first-end : goal.returns-then-first-end
returns-then-first-end c =
    sym (none_in_nothing c.args.self.now.hashing (entries_of c.args.self.now.entries) c.args.first c.args.end c.if-first-end.true)

pub returns : goal.returns
returns c =
    c.has_none_between.ensures
    ∙ sym (each_by_grain c.self.inside.hashing (λ h. not (is_between c.args.first c.args.end h)) c.self.inside.map c.self.invariant.are)
    ∙ ap (λ (v : TableValue). list_all (λ e. not (is_between c.args.first c.args.end (hash_grain v.hashing e.grain)))
    (entries_of v.entries)) c.self.view_is
