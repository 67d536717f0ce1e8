use Rattle.std.proofs.Common.{◌∙◌, ap}
use Rattle.std.specs.Prelude.{filter, not}
use Rattle.directory_rules.specs.Members.{is_dead_in}
use Rattle.silo_address.specs.declared.ActivationId.{ActivationId}
use Rattle.grain_table.specs.declared.hashed_grain.HashedGrain.{HashedGrain}
use Rattle.grain_table.proofs.StillCut.{kept_are, kept_entries, kept_most}
use Rattle.grain_table.proofs.hashed_map.HashedMap.remove_dead.Goals as goal

pub count-self-inside-requires : goal.count-self-inside-requires
count-self-inside-requires c =
    kept_most (λ e. not (is_dead_in c.args.view.now e.1.silo)) c.self.inside.cuts.items c.self.inside.buckets.items
    c.remove_each_dead.new.buckets.items
    c.self.inside.len c.self.invariant c.remove_each_dead.ensures c.deref.result.now c.deref.ensures.value

pub invariant_of-self : goal.invariant_of-self
invariant_of-self c =
    kept_are (λ e. not (is_dead_in c.args.view.now e.1.silo)) c.self.inside.cuts.items c.self.inside.buckets.items
    c.remove_each_dead.new.buckets.items
    c.self.inside.len c.self.invariant c.remove_each_dead.ensures c.deref.result.now c.deref.ensures.value c.count-self-inside.result
    c.count-self-inside.ensures

pub returns : goal.returns
returns c =
    let test = λ (e : HashedGrain × ActivationId). not (is_dead_in c.args.view.now e.1.silo) in
    kept_entries test c.self.inside.cuts.items c.self.inside.buckets.items c.remove_each_dead.new.buckets.items c.self.inside.len
    c.self.invariant c.remove_each_dead.ensures
    ∙ ap (filter test) c.self.view_is
