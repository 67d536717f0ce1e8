use Rattle.std.proofs.Common.{◌≡◌, ◌∙◌, sym, subst}
use Rattle.std.proofs.lemmas.List.Elements.{same_from_all_zip}
use Rattle.std.specs.Box.{boxed_slice_items}
use Rattle.silo_address.specs.ReadGrain.{grain_at_slash}
use Rattle.grain_table.specs.Buckets.{IsGrainText}
use Rattle.grain_table.proofs.hashed_map.slot.Slot.copy.Goals as goal

pub invariant_of-result : goal.invariant_of-result
invariant_of-result c =
    let same = same_from_all_zip (λ x y. y ≡ x) (boxed_slice_items c.self.inside.text) (boxed_slice_items c.in_ok-text.text) c.in_ok-text.ensures.cases.0 (λ x y is. is) in
    subst IsGrainText (sym same) c.self.invariant

pub returns : goal.returns
returns c =
    let same = same_from_all_zip (λ x y. y ≡ x) (boxed_slice_items c.self.inside.text) (boxed_slice_items c.in_ok-text.text) c.in_ok-text.ensures.cases.0 (λ x y is. is) in
    (λ i. (
      record { hash = c.self.inside.hash; grain = grain_at_slash (same i) },
      record { silo = c.self.inside.silo; count = c.self.inside.count },
    ))
    ∙ c.self.view_is
