use Rattle.std.proofs.Common.{◌∙◌, ap, filter, rules, sym, subst, not}
use Rattle.std.proofs.lemmas.Fn.{filter_same}
use Rattle.std.specs.List.Sorted.{IsStrictlySortedBy}
use Rattle.std.specs.Map.{keys_of}
use Rattle.directory_rules.specs.Members.{is_dead_in}
use Rattle.silo_address.specs.declared.ActivationId.{ActivationId}
use Rattle.grain_table.specs.declared.hashed_grain.HashedGrain.{HashedGrain}
use Rattle.grain_table.specs.Hashed.{Hashed, hashed_cmp}
use Rattle.grain_table.proofs.Filters.{sorted_passed}
use Rattle.grain_table.proofs.hashed_map.bucket.Bucket.remove_dead.Goals as goal

pub invariant_of-self : goal.invariant_of-self
invariant_of-self c =
    let test = λ (e : HashedGrain × ActivationId). not (is_dead_in c.args.view.now e.1.silo) in
    let left = filter_same _ test _ (λ x b f called. search rules) c.self.inside.slots.items c.retain.new.self.items c.retain.ensures.filtered in
    subst (λ (es : Hashed). IsStrictlySortedBy hashed_cmp (keys_of es)) (sym (c.give_room_back.ensures ∙ left))
    (sorted_passed test hashed_cmp c.self.inside.slots.items c.self.invariant)

pub returns : goal.returns
returns c =
    let test = λ (e : HashedGrain × ActivationId). not (is_dead_in c.args.view.now e.1.silo) in
    let left = filter_same _ test _ (λ x b f called. search rules) c.self.inside.slots.items c.retain.new.self.items c.retain.ensures.filtered in
    c.give_room_back.ensures ∙ left ∙ ap (filter test) c.self.view_is
